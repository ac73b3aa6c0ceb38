-- What a passed check tells.
use Rattle.std.specs.Prelude.{◌≡◌, ℕ, ◌<◌, ◌==◌, nat_lt}
use Rattle.std.proofs.Common.{sym, ltb-true}
use Rattle.std.proofs.lemmas.Bool.{eqb-false}
use Rattle.words.specs.Refusals.{passed, unless, refused_if}
use Rattle.words.proofs.Checks.{then_first, then_second, unless_passed, refused_if_passed}
use Rattle.tables.specs.Answers.{allowed}

-- the cell (s, t, i) is one of k shuttles with n moves each
pub record Inside (k n s t i : ℕ) : Type 0 where
  pub from_below : s < k
  pub to_below : t < k
  pub apart : s ≡ t → ⊥
  pub place_below : i < n

pub inside_from : (k n s t i : ℕ) → allowed k n s t i ≡ passed → Inside k n s t i
unfolding allowed
inside_from k n s t i e =
    let a = then_second (unless (nat_lt s k) 1) _ tt (sym e) in
    let b = then_second (unless (nat_lt t k) 1) _ tt a in
    record {
      from_below = ltb-true s k (unless_passed (nat_lt s k) 1 (then_first (unless (nat_lt s k) 1) _ tt (sym e)));
      to_below = ltb-true t k (unless_passed (nat_lt t k) 1 (then_first (unless (nat_lt t k) 1) _ tt a));
      apart = eqb-false s t (refused_if_passed (s == t) 3 (then_first (refused_if (s == t) 3) _ tt b));
      place_below = ltb-true i n (unless_passed (nat_lt i n) 2 (then_second (refused_if (s == t) 3) _ tt b));
    }
