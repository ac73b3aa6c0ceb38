-- The laws that speak of all running orders.
use Rattle.std.proofs.Common.{List, ◌∷◌, refl, subst, inl, inr}
use Rattle.order.specs.Lists.{Earlier, parted}
use Rattle.order.specs.Board.{Move, Before, Running}
use Rattle.order.specs.Laws.{Completes, Exact, Circles, Tested}
use Rattle.order.proofs.Board.{kept, not_both, part_running, part_apart, sound, removes, places}
use Rattle.order.proofs.Deciding.{before_dec, tests}

pub tested : Tested
tested k len E o u = tests (λ x. Before k len E x u) (λ x. before_dec k len E o.0 o.1 x u)

pub completes : Completes
completes k len E o u v a b no' =
    let t = tested k len E o v in
    (parted t.0 o.0, part_running k len E o.0 o.1 v t.0 t.1, part_apart k len E o.0 o.1 v t.0 t.1 u b a no')

pub exact : Exact
exact k len E o u v a b ne = (λ p M Q. sound k len E M Q u v p ne, back)
  where
    back : ((M : List Move) → Running k len E M → Earlier M u v) → Before k len E u v
    back all = elim (before_dec k len E o.0 o.1 u v) [
      | yes p ↦ p
      | no q ↦ let c = completes k len E o u v a b q in absurd (not_both k len E c.0 c.1 u v (all c.0 c.1) c.2)
    ]

pub circles : Circles
circles k len E o u v a b = (λ h p. ahead h.0 h.1 p, λ no'. let t = tested k len E o u in (parted t.0 o.0, places k len E o.0 o.1 u v a b t.0 t.1 no'))
  where
    ahead : (M : List Move) → Running k len ((u, v) ∷ E) M → Before k len E v u → ⊥
    ahead M Q p =
        let Q' = removes k len ((u, v) ∷ E) E M Q (λ w h. inr h) in
        let h : Earlier M u v = Q.follows u v (inl refl) in
        elim (kept k len E M Q' v u p) [ inl e ↦ Q.once u (subst (Earlier M u) e h) | inr g ↦ not_both k len E M Q' u v h g ]
