-- The earliest place that either of two holdings has.
use Rattle.std.proofs.Common.{◌≡◌, ℕ, ◌<◌, ◌≤◌, min, ◌||◌, Some, None, Option, ◌∙◌, ⊎_elim, arith}
use Rattle.std.proofs.lemmas.Bool.{cases_lt, or_from, or_left, or_right}
use Rattle.order.specs.Rounds.{sooner}
use Rattle.words.specs.Codes.{code_of}
use Rattle.stores.specs.Holding.{Holding, Earliest}

module _ (f g h : Holding) (u t : ℕ) (both : (v : ℕ) → h.held u v ≡ (f.held u v || g.held u v)) where
  pub earliest_either : (a b : Option ℕ) → Earliest f u t a → Earliest g u t b → Earliest h u t (sooner a b)
  earliest_either None None p q = λ few j l. both (code_of t j) ∙ or_from _ _ (p few j l) (q few j l)
  earliest_either None (Some y) p q =
      (q.0, q.1, both (code_of t y) ∙ or_right _ _ q.2, λ b l. both (code_of t b) ∙ or_from _ _ (p q.0 b (omega (arith, q.1))) (q.3 b l))
  earliest_either (Some x) None p q =
      (p.0, p.1, both (code_of t x) ∙ or_left _ _ p.2, λ b l. both (code_of t b) ∙ or_from _ _ (p.3 b l) (q p.0 b (omega (arith, p.1))))
  earliest_either (Some x) (Some y) p q =
      ⊎_elim
      (λ (less : x < y).
      let m : min x y ≡ x = omega arith in
      rw m (p.0, p.1, both (code_of t x) ∙ or_left _ _ p.2, λ b l. both (code_of t b) ∙ or_from _ _ (p.3 b l) (q.3 b (omega arith))))
      (λ (more : y ≤ x).
      let m : min x y ≡ y = omega arith in
      rw m (q.0, q.1, both (code_of t y) ∙ or_right _ _ q.2, λ b l. both (code_of t b) ∙ or_from _ _ (p.3 b (omega arith)) (q.3 b l)))
      (cases_lt x y)
