-- A list that has nothing twice is no longer than one that has all of it.
use Rattle.std.proofs.Common.{◌≡◌, suc, ◌≤◌, List, [], ◌∷◌, length, sym, refl, ap, ◌∙◌, inl, inr, arith}
use Rattle.order.specs.Lists.{In, Earlier}

module _ {X : Type 0} where
  -- the list without the one that h names
  without : (l : List X) (x : X) → In l x → List X
  without [] x h = []
  without (z ∷ l) x (inl e) = l
  without (z ∷ l) x (inr h) = z ∷ without l x h

  length_without : (l : List X) (x : X) (h : In l x) → length l ≡ suc (length (without l x h))
  unfolding without
  length_without [] x h = absurd h
  length_without (z ∷ l) x (inl e) = refl
  length_without (z ∷ l) x (inr h) = ap suc (length_without l x h)

  in_without : (l : List X) (x : X) (h : In l x) (y : X) → (x ≡ y → ⊥) → In l y → In (without l x h) y
  unfolding without
  in_without [] x h y ne g = g
  in_without (z ∷ l) x (inl e) y ne (inl d) = absurd (ne (sym e ∙ d))
  in_without (z ∷ l) x (inl e) y ne (inr g) = g
  in_without (z ∷ l) x (inr h) y ne (inl d) = inl d
  in_without (z ∷ l) x (inr h) y ne (inr g) = inr (in_without l x h y ne g)

  pub no_longer : (a b : List X) → ((x : X) → Earlier a x x → ⊥) → ((x : X) → In a x → In b x) → length a ≤ length b
  no_longer [] b once sub = omega arith
  no_longer (x ∷ a) b once sub =
      let h = sub x (inl refl) in
      omega (
        arith,
        length_without b x h,
        no_longer a (without b x h) (λ y e. once y (inr e)) (λ y g. in_without b x h y (λ e. once y (inl (e, g))) (sub y (inr g))),
      )
