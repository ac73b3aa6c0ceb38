-- How many moves a running order has.
use Rattle.std.proofs.Common.{◌≡◌, ℕ, zero, suc, length, refl, ◌∙◌, arith, length-append}
use Rattle.order.specs.Board.{Lengths, row, rows, total}
use Rattle.order.specs.Laws.{Counted, Uniform}
use Rattle.order.proofs.Rows.{starts}
use Rattle.order.proofs.Sizes.{no_longer}

length_row : (s n : ℕ) → length (row s n) ≡ n
length_row s zero = refl
length_row s (suc n) = length-append (row s n) _ ∙ omega (arith, length_row s n)

pub length_rows : (k : ℕ) (len : Lengths) → length (rows k len) ≡ total k len
length_rows zero len = refl
length_rows (suc k) len = length-append (rows k len) (row k (len k)) ∙ omega (arith, length_rows k len, length_row k (len k))

pub counted : Counted
counted k len E L R =
    let S = starts k len in
    omega (
      arith,
      length_rows k len,
      no_longer L (rows k len) R.once (λ x h. S.each x (R.only x h)),
      no_longer (rows k len) L S.once (λ x h. R.each x (S.only x h)),
    )

pub uniform : Uniform
uniform zero n = omega arith
uniform (suc k) n = omega (arith, uniform k n)
