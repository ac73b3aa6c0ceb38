-- Where a move is not listed yet, one is ready.
use Rattle.std.proofs.Common.{ℕ, ◌<◌, List, [], ◌∷◌, length, sym, refl, subst, inl, inr, arith}
use mathlib.Core.Logic.Dec
use Rattle.order.specs.Lists.{In, Earlier}
use Rattle.order.specs.Board.{Move, Lengths, Edges, On, Before, Ordered, total, rows}
use Rattle.order.proofs.Lists.{in_second}
use Rattle.order.proofs.Board.{sound}
use Rattle.order.proofs.Rows.{starts}
use Rattle.order.proofs.Sizes.{no_longer}
use Rattle.order.proofs.Counting.{length_rows}
use Rattle.order.proofs.Deciding.{find, in_dec, same_move}
use Rattle.running.specs.Orders.{Ready}
use Rattle.running.proofs.Laws.{made_ready}

pub not_dec : {A : Type 0} → Dec A → Dec (A → ⊥)
not_dec (yes a) = no (λ f. f a)
not_dec (no f) = yes f

-- the first of the list that has the property
module _ {X : Type 0} (Q : X → Type 0) (dec : (x : X) → Dec (Q x)) where
  first_in : (l : List X) → ((w : X) → Earlier l w w → ⊥) → (x : X) → In l x → Q x → (y : X) × In l y × Q y × ((z : X) → Earlier l z y → Q z → ⊥)
  first_in [] once x i q = absurd i
  first_in (a ∷ l) once x i q = go (dec a) i (λ j. first_in l (λ w e. once w (inr e)) x j q)
    where
      nothing : (z : X) → Earlier (a ∷ l) z a → Q z → ⊥
      nothing z (inl e) r = once a (inl (refl, e.1))
      nothing z (inr e) r = once a (inl (refl, in_second l z a e))

      later : (Q a → ⊥) → (y : X) → ((z : X) → Earlier l z y → Q z → ⊥) → (z : X) → Earlier (a ∷ l) z y → Q z → ⊥
      later n y h z (inl e) r = n (subst Q (sym e.0) r)
      later n y h z (inr e) r = h z e r

      go : Dec (Q a) → In (a ∷ l) x → (In l x → (y : X) × In l y × Q y × ((z : X) → Earlier l z y → Q z → ⊥)) → (y : X) × In (a ∷ l) y × Q y × ((z : X) → Earlier (a ∷ l) z y → Q z → ⊥)
      go (yes r) i rec = (a, inl refl, r, nothing)
      go (no n) (inl e) rec = absurd (n (subst Q (sym e) q))
      go (no n) (inr i) rec = let r = rec i in (r.0, inr r.1, r.2, later n r.0 r.3)

-- of the moves that have the property, where what is before one of them has it too
module _
    (k : ℕ) (len : Lengths) (W : Edges) (o : Ordered k len W) (P : List Move) (B : Move → Type 0) (bdec : (x : Move) → Dec (B x))
    (cl : (x y : Move) → On k len x → B x → Before k len W y x → B y)
  where
    pub ready_in : (x : Move) → On k len x → B x → (In P x → ⊥) → (y : Move) × B y × Ready k len W P y
    ready_in x on b out =
        let r = first_in (λ z. (In P z → ⊥) × B z) (λ z. Dec.and (not_dec (in_dec same_move P z)) (bdec z)) o.0 o.1.once x (o.1.each x on) (out, b) in
        let ony : On k len r.0 = o.1.only r.0 r.1 in
        (r.0, r.2.1, made_ready k len W P r.0 ony r.2.0 (λ z p ne. elim (in_dec same_move P z) [ yes i ↦ i | no f ↦ absurd (r.3 z (sound k len W o.0 o.1 z r.0 p ne) (f, cl r.0 z ony r.2.1 p)) ]))

-- fewer moves than the shuttles have leave one out
pub unlisted : (k : ℕ) (len : Lengths) → (P : List Move) → length P < total k len → (x : Move) × On k len x × (In P x → ⊥)
unlisted k len P l =
    elim (find (λ x. In P x → ⊥) (rows k len) (λ x _. not_dec (in_dec same_move P x))) [
      | inl f ↦ (f.0, (starts k len).only f.0 f.1, f.2)
      | inr f ↦
          let g : ⊥ = omega (arith, length_rows k len, no_longer (rows k len) P (starts k len).once (λ x i. elim (in_dec same_move P x) [ yes h ↦ h | no h ↦ absurd (f x i h) ])) in
          absurd g
    ]
