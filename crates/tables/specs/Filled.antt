-- A table can fill the cells of two different shuttles, and so k * (k - 1) * n of them at most.
use Rattle.std.specs.Prelude.{◌≡◌, ℕ, suc, ◌+◌, ◌-◌, ◌*◌, ◌<◌, ◌≤◌, cond, Some, None, Option, ◌==◌}
use Rattle.std.proofs.Common.{suc-mul, mul-one, mul-zero, arith, sym, ap, ◌∙◌, ⊎_elim}
use Rattle.std.proofs.Math.Nat.{mul_assoc}
use Rattle.std.proofs.lemmas.Bool.{cases_eq, eq-eqb, ne_eqb}
use Rattle.tables.specs.Meaning.{sum_below, one, filled_of}
use Rattle.tables.specs.Sums.{sum_mono, sum_same, sum_but}

pub one_le : (o : Option ℕ) → one o ≤ 1
one_le None = omega arith
one_le (Some x) = omega arith

pub pred_mul : (k n : ℕ) → 0 < k → (k - 1) * n + n ≡ k * n
pred_mul k n h = let e : suc (k - 1) ≡ k = omega arith in sym (suc-mul (k - 1) n) ∙ ap (λ x. x * n) e

module _ (k n : ℕ) (f : ℕ → ℕ → ℕ → Option ℕ) (same : (s i : ℕ) → f s s i ≡ None) (some : 0 < k) where
  pub pair_le : (s t : ℕ) → sum_below n (λ i. one (f s t i)) ≤ cond (s == t) 0 n
  pair_le s t =
      ⊎_elim
      (λ (e : s ≡ t).
      let z : (i : ℕ) → one (f s t i) ≡ 0 = λ i. rw (← e) (ap one (same s i)) in
      rw (eq-eqb s t e)
      (omega (arith, sum_mono n (λ i. one (f s t i)) (λ _. 0) (λ i l. omega (arith, z i)), sum_same n 0, mul-zero n)))
      (λ ne.
      rw (ne_eqb s t ne)
      (omega (arith, sum_mono n (λ i. one (f s t i)) (λ _. 1) (λ i l. one_le (f s t i)), sum_same n 1, mul-one n)))
      (cases_eq s t)

  pub row_le : (s : ℕ) → s < k → sum_below k (λ t. sum_below n (λ i. one (f s t i))) ≤ (k - 1) * n
  row_le s l =
      omega (arith, sum_mono k (λ t. sum_below n (λ i. one (f s t i))) (λ t. cond (s == t) 0 n) (λ t _. pair_le s t), sum_but k s n l, pred_mul k n some)

  pub filled_le : filled_of k n f ≤ k * (k - 1) * n
  unfolding filled_of
  filled_le =
      omega (arith, sum_mono k (λ s. sum_below k (λ t. sum_below n (λ i. one (f s t i)))) (λ _. (k - 1) * n) row_le, sum_same k ((k - 1) * n), mul_assoc k (k - 1) n)
