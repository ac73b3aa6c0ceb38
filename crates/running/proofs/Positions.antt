-- Where things stand in a list, by position.
use Rattle.std.proofs.Common.{◌≡◌, ℕ, zero, suc, ◌<◌, List, [], ◌∷◌, length, get_or, take, refl, inl, inr, arith}
use Rattle.order.specs.Lists.{In, Earlier}
use Rattle.order.proofs.Lists.{in_second}

module _ {X : Type 0} (d : X) where
  pub in_at : (l : List X) (x : X) → In l x → (p : ℕ) × (p < length l) × (get_or l p d ≡ x)
  in_at [] x h = absurd h
  in_at (z ∷ l) x (inl e) = (0, omega arith, e)
  in_at (z ∷ l) x (inr h) = let r = in_at l x h in (suc r.0, omega (arith, r.1), r.2)

  pub at_in : (l : List X) (p : ℕ) → p < length l → In l (get_or l p d)
  at_in [] p h = omega arith
  at_in (z ∷ l) zero h = inl refl
  at_in (z ∷ l) (suc p) h = inr (at_in l p (omega arith))

  pub earlier_at : (l : List X) (x y : X) → Earlier l x y → (p : ℕ) × (p < length l) × (get_or l p d ≡ y) × In (take p l) x
  earlier_at [] x y h = absurd h
  earlier_at (z ∷ l) x y (inl e) = let r = in_at l y e.1 in (suc r.0, omega (arith, r.1), r.2, inl e.0)
  earlier_at (z ∷ l) x y (inr h) = let r = earlier_at l x y h in (suc r.0, omega (arith, r.1), r.2, inr r.3)

  pub at_earlier : (l : List X) (p : ℕ) (x : X) → p < length l → In (take p l) x → Earlier l x (get_or l p d)
  at_earlier [] p x h i = omega arith
  at_earlier (z ∷ l) zero x h i = absurd i
  at_earlier (z ∷ l) (suc p) x h (inl e) = inl (e, at_in l p (omega arith))
  at_earlier (z ∷ l) (suc p) x h (inr i) = inr (at_earlier l p x (omega arith) i)

  -- in a list that has nothing twice
  pub back_in : (l : List X) → ((w : X) → Earlier l w w → ⊥) → (p : ℕ) → p < length l → (x : X) → Earlier l x (get_or l p d) → In (take p l) x
  back_in [] once p h x e = absurd e
  back_in (z ∷ l) once zero h x (inl e) = absurd (once z (inl (refl, e.1)))
  back_in (z ∷ l) once zero h x (inr e) = absurd (once z (inl (refl, in_second l x z e)))
  back_in (z ∷ l) once (suc p) h x (inl e) = inl e.0
  back_in (z ∷ l) once (suc p) h x (inr e) = inr (back_in l (λ w g. once w (inr g)) p (omega arith) x e)
