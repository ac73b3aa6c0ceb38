-- There is a list of each rule.
use Rattle.std.proofs.Common.{◌≡◌, ℕ, zero, suc, ◌<◌, ◌≤◌, ◌⊎◌, List, [], ◌∷◌, ◌++◌, length, refl, inl, inr, arith, length-append}
use mathlib.Core.Logic.Dec
use native.Mathlib.Decide.{dec_lt}
use Rattle.order.specs.Lists.{In}
use Rattle.order.specs.Board.{Move, Lengths, Edges, On, Before, Ordered, total}
use Rattle.order.proofs.Lists.{reaches_trans}
use Rattle.order.proofs.Ways.{on_before}
use Rattle.order.proofs.Deciding.{find, in_dec, same_move, before_dec}
use Rattle.running.specs.Orders.{Ready, Lowest, Chosen, FirstOf, Pushed, EachBy, SomeList, SomePush}
use Rattle.running.proofs.States.{each_more}
use Rattle.running.proofs.Laws.{made_ready}
use Rattle.running.proofs.Unlisted.{not_dec, ready_in, unlisted}

module _ (k : ℕ) (len : Lengths) (W : Edges) (o : Ordered k len W) (P : List Move) where
  abbrev Missing : Move → Move → Type 0
  Missing y z = Before k len W z y × ((z ≡ y → ⊥) × (In P z → ⊥))

  ready_dec : (y : Move) → On k len y → Dec (Ready k len W P y)
  ready_dec y on = go (in_dec same_move P y) (find (Missing y) o.0 (λ z _. Dec.and (before_dec k len W o.0 o.1 z y) (Dec.and (not_dec (same_move z y)) (not_dec (in_dec same_move P z)))))
    where
      go : Dec (In P y) → ((z : Move) × In o.0 z × Missing y z) ⊎ ((z : Move) → In o.0 z → Missing y z → ⊥) → Dec (Ready k len W P y)
      go (yes i) f = no (λ h. h.0.1 i)
      go (no q) (inl f) = no (λ h. f.2.1.1 (h.1 f.0 f.2.0 f.2.1.0))
      go (no q) (inr f) =
          yes (made_ready k len W P y on q (λ z b ne. elim (in_dec same_move P z) [ yes i ↦ i | no g ↦ absurd (f z (o.1.each z (on_before k len W o.0 o.1 b on)) (b, (ne, g))) ]))

  module _ (B : Move → Type 0) (bdec : (x : Move) → Dec (B x)) where
    lowest_from : (s : ℕ) (y : Move) → y.0 ≤ s → B y → Ready k len W P y → (x : Move) × Lowest k len W B P x
    lowest_from zero y l b h = (y, (b, h, λ z g _ _. omega arith))
    lowest_from (suc s) y l b h =
        elim (find (λ z. (z.0 < y.0) × (B z × Ready k len W P z)) o.0 (λ z i. Dec.and (dec_lt z.0 y.0) (Dec.and (bdec z) (ready_dec z (o.1.only z i))))) [
          | inl f ↦ lowest_from s f.0 (omega (arith, f.2.0)) f.2.1.0 f.2.1.1
          | inr f ↦ (y, (b, h, λ z g c r. f z (o.1.each z r.0.0) (g, (c, r))))
        ]

  some_chosen : (x : Move) → On k len x → (In P x → ⊥) → (y : Move) × Chosen k len W P y
  some_chosen x on out =
      let r = ready_in k len W o P (λ _. Unit {0}) (λ _. yes tt) (λ _ _ _ _ _. tt) x on tt out in
      let s = lowest_from (λ _. Unit {0}) (λ _. yes tt) r.0.0 r.0 (omega arith) tt r.2 in
      (s.0, (s.1.1, λ y l h. s.1.2 y l tt h))

  some_first : (B : Move → Type 0) → ((x : Move) → Dec (B x)) → ((x y : Move) → On k len x → B x → Before k len W y x → B y) → (x : Move) → On k len x → (In P x → ⊥) → (y : Move) × FirstOf k len W B P y
  some_first B bdec cl x on out =
      elim (find (λ z. (In P z → ⊥) × B z) o.0 (λ z _. Dec.and (not_dec (in_dec same_move P z)) (bdec z))) [
        | inl f ↦
            let r = ready_in k len W o P B bdec cl f.0 (o.1.only f.0 f.1) f.2.1 f.2.0 in
            let s = lowest_from B bdec r.0.0 r.0 (omega arith) r.1 r.2 in
            (s.0, inl s.1)
        | inr f ↦
            let s = some_chosen x on out in
            (s.0, inr ((λ y ony b. elim (in_dec same_move P y) [ yes i ↦ i | no g ↦ absurd (f y (o.1.each y ony) (g, b)) ]), s.1))
      ]

-- a choice that never ends early makes a list
module _ (k : ℕ) (len : Lengths) (C : List Move → Move → Type 0) (more : (P : List Move) (x : Move) → On k len x → (In P x → ⊥) → (y : Move) × C P y) where
  grown : (c : ℕ) → c ≤ total k len → (L : List Move) × (length L ≡ c) × EachBy C L
  grown zero l = ([], refl, λ p h. let g : ⊥ = omega arith in absurd g)
  grown (suc c) l =
      let r = grown c (omega arith) in
      let u = unlisted k len r.0 (omega (arith, r.1)) in
      let y = more r.0 u.0 u.1 u.2 in
      (r.0 ++ y.0 ∷ [], omega (arith, r.1, length-append r.0 (y.0 ∷ [])), each_more C r.0 y.0 r.2 y.1)

pub some_list : SomeList
some_list k len W o = let r = grown k len (Chosen k len W) (some_chosen k len W o) (total k len) (omega arith) in (r.0, (r.1, r.2))

pub some_push : SomePush
some_push k len W o v =
    let r = grown k len (Pushed k len W v) (λ P. some_first k len W o P (λ y. Before k len W y v) (λ y. before_dec k len W o.0 o.1 y v) (λ x y on b p. reaches_trans p b)) (total k len) (omega arith) in
    (r.0, (r.1, r.2))
