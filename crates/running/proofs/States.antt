-- Some moves listed, and how many of each shuttle: what the table says of the next.
use Rattle.std.proofs.Common.{◌≡◌, ℕ, ◌+◌, ◌<◌, ◌≤◌, ◌↔◌, List, [], ◌∷◌, ◌++◌, length, get_or, take, set, Some, None, Option, sym, refl, ap, subst, inl, inr, arith, length-append, get_or-set_other, get_or-set_same, take_at}
use native.Mathlib.Decide.{dec_lt, ℕ_discrete}
use lib.Seq.{take-append-le, get_or_at}
use Rattle.std.proofs.lemmas.List.{get_or_append_left}
use Rattle.order.specs.Lists.{In, Earlier, Reaches, there, onward}
use Rattle.order.specs.Board.{Move, Edges, Step, Before}
use Rattle.order.specs.Rounds.{GreatestOf}
use Rattle.order.proofs.Lists.{in_left, in_right, in_either}
use Rattle.order.proofs.Board.{along}
use Rattle.order.proofs.Ways.{fits, no_back}
use Rattle.running.specs.Orders.{Upcoming, Ready, EachBy}
use Rattle.tables.specs.Meaning.{Meaning}
use Rattle.running.specs.Calls.{last_look, Serves}
use Rattle.running.specs.Progress.{Past, Goes, Follows}
use Rattle.running.proofs.Laws.{ready_closed}

abbrev none : Move
none = (0, 0)

-- a list with one more
pub each_more : (C : List Move → Move → Type 0) (L : List Move) (x : Move) → EachBy C L → C L x → EachBy C (L ++ x ∷ [])
each_more C L x h c p l =
    elim (dec_lt p (length L)) [
      | yes g ↦ subst (λ P. C P (get_or (L ++ x ∷ []) p none)) (sym (take-append-le p L (x ∷ []) (omega arith))) (subst (C (take p L)) (sym (get_or_append_left L (x ∷ []) none p g)) (h p g))
      | no g ↦
          let e : length L ≡ p = omega (arith, length-append L (x ∷ [])) in
          subst (λ P. C P (get_or (L ++ x ∷ []) p none)) (sym (take_at L (x ∷ []) p e)) (subst (C L) (sym (get_or_at L x [] none p e)) c)
    ]

-- a path that is not empty has a last step
last_step : {X : Type 0} {S : X → X → Type 0} {v u : X} → Reaches S v u → (u ≡ v → ⊥) → (z : X) × Reaches S z u × S z v
last_step (there e) ne = absurd (ne e)
last_step {S = S} {v} {u} (onward {w} s p) ne = onto u w s p
  where
    onto : (u w : _) → S u w → Reaches S v w → (z : _) × Reaches S z u × S z v
    onto u w s (there e) = (u, there refl, subst (S u) e s)
    onto u w s (onward {w = x} t p) = let r = onto w x t p in (r.0, onward s r.1, r.2)

-- d tells how many moves of each shuttle are in P, and each was ready
pub record State (m : Meaning) (W : Edges) (P : List Move) (d : List ℕ) : Type 0 where
  pub ready : EachBy (Ready m.shuttles (λ _. m.moves) W) P
  pub counts : (s i : ℕ) → s < m.shuttles → In P (s, i) → i < get_or d s 0
  pub counted : (s i : ℕ) → s < m.shuttles → i < get_or d s 0 → In P (s, i)

module _ (m : Meaning) (W : Edges) (v : Serves m W) (P : List Move) (d : List ℕ) (st : State m W P d) where
  ready_follows : (x : Move) → Ready m.shuttles (λ _. m.moves) W P x → Follows m d x
  ready_follows x h = (h.0.0.0, h.0.0.1, place, goes)
    where
      place : x.1 ≡ get_or d x.0 0
      place =
          elim (dec_lt x.1 (get_or d x.0 0)) [
            | yes l ↦ absurd (h.0.1 (st.counted x.0 x.1 h.0.0.0 l))
            | no g ↦
                elim (dec_lt (get_or d x.0 0) x.1) [
                  | yes l ↦ omega (arith, st.counts x.0 (get_or d x.0 0) h.0.0.0 (h.0.2 (get_or d x.0 0) l))
                  | no q ↦ omega arith
                ]
          ]

      goes : Goes m d x.0 x.1
      goes r lr ne = by (last_look m r x.0 x.1) (v.0 r x.0 x.1 lr h.0.0.0 ne h.0.0.1)
        where
          by : (o : Option ℕ) → GreatestOf W r x.0 x.1 o → Past o (get_or d r 0)
          by None g = tt
          by (Some p) g =
              let w = g.0.2 in
              let up : Before m.shuttles (λ _. m.moves) W (x.0, g.0.0) x = along m.shuttles (λ _. m.moves) W x.0 g.0.0 x.1 h.0.0.0 g.0.1 h.0.0.1 in
              st.counts r p lr (h.1 (r, p) (onward (inr w) up) (λ e. ne (ap (λ y. y.0) e)))

  follows_ready : (x : Move) → Follows m d x → Ready m.shuttles (λ _. m.moves) W P x
  follows_ready x h = (up, back)
    where
      here : (i : ℕ) → i < x.1 → In P (x.0, i)
      here i l = st.counted x.0 i h.0 (omega (arith, h.2))

      up : Upcoming m.shuttles (λ _. m.moves) P x
      up = ((h.0, h.1), (λ i. omega (arith, h.2, st.counts x.0 x.1 h.0 i)), here)

      direct : (u : Move) → In W (u, x) → In P u
      direct u w =
          elim (ℕ_discrete u.0 x.0) [
            | yes e ↦
                let b : Before m.shuttles (λ _. m.moves) W (x.0, u.1) x = subst (λ s. Before m.shuttles (λ _. m.moves) W (s, u.1) x) e (onward (inr w) (there refl)) in
                let l : u.1 ≤ x.1 = no_back m.shuttles (λ _. m.moves) W v.1.0 v.1.1 x.0 u.1 x.1 (h.0, (fits m.shuttles (λ _. m.moves) W v.1.0 v.1.1 u x w).0.1) b in
                elim (dec_lt u.1 x.1) [
                  | yes g ↦ subst (λ s. In P (s, u.1)) (sym e) (here u.1 g)
                  | no g ↦ let d : u.1 ≡ x.1 = omega arith in absurd (v.1.1.once x (subst (λ y. Earlier v.1.0 y x) (λ i. (e i, d i)) (v.1.1.follows u x w)))
                ]
            | no ne ↦ by ne (last_look m u.0 x.0 x.1) refl (v.0 u.0 x.0 x.1 lu h.0 ne h.1)
          ]
        where
          lu : u.0 < m.shuttles
          lu = (fits m.shuttles (λ _. m.moves) W v.1.0 v.1.1 u x w).0.0

          by : (u.0 ≡ x.0 → ⊥) → (o : Option ℕ) → last_look m u.0 x.0 x.1 ≡ o → GreatestOf W u.0 x.0 x.1 o → In P u
          by ne None e g = absurd (g u.1 x.1 w (omega arith))
          by ne (Some p) e g =
              let below : p < get_or d u.0 0 = subst (λ o. Past o (get_or d u.0 0)) e (h.3 u.0 lu ne) in
              st.counted u.0 u.1 lu (omega (arith, g.1 u.1 x.1 w (omega arith)))

      back : (y : Move) → Before m.shuttles (λ _. m.moves) W y x → (y ≡ x → ⊥) → In P y
      back y b ne = let r = last_step b ne in over r.0 r.1 r.2
        where
          over : (z : Move) → Before m.shuttles (λ _. m.moves) W y z → Step m.shuttles (λ _. m.moves) W z x → In P y
          over z p (inl t) =
              ready_closed m.shuttles (λ _. m.moves) W P st.ready z y
              (subst (λ s. In P (s, z.1)) (ap (λ a. a.0) t.2) (here z.1 (omega (arith, ap (λ a. a.1) t.2)))) p
          over z p (inr w) = ready_closed m.shuttles (λ _. m.moves) W P st.ready z y (direct z w) p

  pub ready_iff : (x : Move) → Ready m.shuttles (λ _. m.moves) W P x ↔ Follows m d x
  ready_iff x = (ready_follows x, follows_ready x)

  pub state_more : length d ≡ 16 → m.shuttles ≤ 16 → (x : Move) → Follows m d x → State m W (P ++ x ∷ []) (set d x.0 (x.1 + 1))
  state_more len few x h = record { ready = each_more (Ready m.shuttles (λ _. m.moves) W) P x st.ready (follows_ready x h); counts = more; counted = more' }
    where
      in_here : x.0 < length d
      in_here = omega (arith, h.0)

      same : get_or (set d x.0 (x.1 + 1)) x.0 0 ≡ x.1 + 1
      same = get_or-set_same d x.0 (x.1 + 1) 0 in_here

      more : (s i : ℕ) → s < m.shuttles → In (P ++ x ∷ []) (s, i) → i < get_or (set d x.0 (x.1 + 1)) s 0
      more s i l g =
          elim (ℕ_discrete s x.0) [
            | yes e ↦
                let big : i < x.1 + 1 = elim (in_either P (x ∷ []) (s, i) g) [
                  | inl p ↦ omega (arith, h.2, st.counts x.0 i h.0 (subst (λ q. In P (q, i)) e p))
                  | inr (inl q) ↦ omega (arith, ap (λ y. y.1) q)
                  | inr (inr q) ↦ absurd q
                ] in
                subst (λ q. i < get_or (set d x.0 (x.1 + 1)) q 0) (sym e) (omega (arith, same))
            | no ne ↦
                let old : i < get_or d s 0 = elim (in_either P (x ∷ []) (s, i) g) [
                  | inl p ↦ st.counts s i l p
                  | inr (inl q) ↦ absurd (ne (sym (ap (λ y. y.0) q)))
                  | inr (inr q) ↦ absurd q
                ] in
                omega (arith, get_or-set_other d x.0 s (x.1 + 1) 0 ne)
          ]

      more' : (s i : ℕ) → s < m.shuttles → i < get_or (set d x.0 (x.1 + 1)) s 0 → In (P ++ x ∷ []) (s, i)
      more' s i l g =
          elim (ℕ_discrete s x.0) [
            | yes e ↦
                let b : i < x.1 + 1 = omega (arith, same, subst (λ q. i < get_or (set d x.0 (x.1 + 1)) q 0) e g) in
                elim (ℕ_discrete i x.1) [
                  | yes q ↦ in_right P (x ∷ []) (s, i) (inl (λ t. (sym e t, sym q t)))
                  | no q ↦ in_left P (x ∷ []) (s, i) (subst (λ a. In P (a, i)) (sym e) (st.counted x.0 i h.0 (omega (arith, h.2))))
                ]
            | no ne ↦ in_left P (x ∷ []) (s, i) (st.counted s i l (omega (arith, get_or-set_other d x.0 s (x.1 + 1) 0 ne)))
          ]
