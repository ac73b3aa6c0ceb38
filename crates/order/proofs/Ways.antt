-- What holds of every way on a board whose edges have a running order.
use Rattle.std.proofs.Common.{◌≡◌, ℕ, ◌<◌, ◌≤◌, ◌⊎◌, List, sym, ap, subst, inl, inr, arith}
use native.Mathlib.Decide.{dec_le}
use Rattle.order.specs.Lists.{In, Earlier, there, onward}
use Rattle.order.specs.Board.{Lengths, Move, Edges, On, Step, Before, Running}
use Rattle.order.proofs.Lists.{in_first, in_second}
use Rattle.order.proofs.Board.{steps_kept, kept, not_both}
use Rattle.order.proofs.Deciding.{same_move}
use Rattle.order.proofs.Ranks.{place_of, place_rises}

module _ (k : ℕ) (len : Lengths) (E : Edges) (L : List Move) (R : Running k len E L) where
  pub fits : (u v : Move) → In E (u, v) → On k len u × On k len v
  fits u v w = (R.only u (in_first L u v (R.follows u v w)), R.only v (in_second L u v (R.follows u v w)))

  pub on_step : (x y : Move) → Step k len E x y → On k len x × On k len y
  on_step x y st = let h = steps_kept k len E L R x y st in (R.only x (in_first L x y h), R.only y (in_second L x y h))

  pub on_after : {v x : Move} → Before k len E x v → On k len x → On k len v
  on_after (there e) h = subst (On k len) e h
  on_after {v} {x} (onward {w} st p) h = on_after p (on_step x w st).1

  pub on_before : {v x : Move} → Before k len E x v → On k len v → On k len x
  on_before (there e) h = subst (On k len) (sym e) h
  on_before {v} {x} (onward {w} st p) h = (on_step x w st).0

  -- no way leads back on a shuttle
  pub no_back : (q a b : ℕ) → On k len (q, a) → Before k len E (q, a) (q, b) → a ≤ b
  no_back q a b on p = elim (dec_le a b) [ yes l ↦ l | no l ↦ absurd (back (kept k len E L R (q, a) (q, b) p) (omega arith)) ]
    where
      back : (◌≡◌ {A = Move} (q, a) (q, b)) ⊎ Earlier L (q, a) (q, b) → b < a → ⊥
      back (inl e) l = omega (arith, ap (λ m. m.1) e)
      back (inr e) l = not_both k len E L R (q, a) (q, b) e (R.rising q b a on.0 l on.1)

  abbrev pub spot : Move → ℕ
  spot x = place_of same_move L x

  pub spot_rises : (x y : Move) → Before k len E x y → (x ≡ y → ⊥) → spot x < spot y
  spot_rises x y p ne = elim (kept k len E L R x y p) [ inl e ↦ absurd (ne e) | inr h ↦ place_rises same_move L R.once x y h ]

  pub spot_edges : (x y : Move) → In E (x, y) → spot x < spot y
  spot_edges x y w = place_rises same_move L R.once x y (R.follows x y w)

  pub spot_along : (q a b : ℕ) → q < k → a ≤ b → b < len q → spot (q, a) ≤ spot (q, b)
  spot_along q a b lq l lb =
      elim (dec_le b a) [
        | yes g ↦ subst (λ x. spot (q, a) ≤ spot (q, x)) (let e : a ≡ b = omega arith in e) (omega arith)
        | no g ↦ omega (arith, place_rises same_move L R.once (q, a) (q, b) (R.rising q a b lq (omega arith) lb))
      ]
