-- The row to start from, entry by entry.
use Rattle.std.proofs.Common.{◌≡◌, ℕ, ◌+◌, ◌<◌, length, set, None, Option, sym, ◌∙◌, subst, arith, get_or-set_other, get_or-set_same}
use native.Mathlib.Decide.{ℕ_discrete}
use Rattle.order.specs.Rounds.{Row, entry}

pub begun_more : (g : ℕ → Option ℕ) (xs : Row) (r : ℕ) (v : Option ℕ) → r < length xs → ((q : ℕ) → q < r → entry xs q ≡ g q) → v ≡ g r → (q : ℕ) → q < r + 1 → entry (set xs r v) q ≡ g q
begun_more g xs r v l h e q lq =
    elim (ℕ_discrete q r) [
      | yes d ↦ subst (λ x. entry (set xs r v) x ≡ g x) (sym d) (get_or-set_same xs r v None l ∙ e)
      | no d ↦ get_or-set_other xs r q v None d ∙ h q (omega arith)
    ]
