-- What the numbers of a plain table mean.
use Rattle.std.specs.Prelude.{ℕ, ◌+◌, ◌*◌, ◌/◌, ◌%◌, Bool, true, false, cond, List, ◌++◌, drop, replicate, is_ok, Some, None, Option, Result, ◌==◌, nat_le, nat_lt, slice_index}
use Rattle.words.specs.declared.Refusal.{Refusal}
use Rattle.words.specs.Refusals.{then, unless, if_done}
use Rattle.tables.specs.Meaning.{Meaning, full_meaning}
use Rattle.tables.specs.Answers.{allowed, sizable}

-- where the cell (s, t, i) lies
abbrev pub place : (k n s t i : ℕ) → ℕ
place k n s t i = (s * k + t) * n + i

-- what a number stands for: 65,535 and no other is an empty cell
abbrev pub decoded : ℕ → Option ℕ
decoded v = cond (v == 65535) None (Some v)

-- the number that stands for it
abbrev pub encoded : Option ℕ → ℕ
encoded None = 65535
encoded (Some j) = j

-- what a cell holds, and none where there is no such cell
unfoldable pub plain_cell : (k n : ℕ) → List ℕ → (s t i : ℕ) → Option ℕ
plain_cell k n cs s t i = cond (is_ok (allowed k n s t i)) (decoded (slice_index cs (place k n s t i))) None

abbrev pub plain_meaning : (k n : ℕ) → List ℕ → Meaning
plain_meaning k n cs = full_meaning k n (plain_cell k n cs)

-- whether v may stand at p: a place, but 65,535 alone between a shuttle and itself
abbrev pub tidy_at : (k n p v : ℕ) → Bool
tidy_at k n p v = cond (v == 65535) true (cond (p / n / k == p / n % k) false (nat_lt v n))

-- whether a buffer of l numbers serves a table of k shuttles with n moves that needs so many
abbrev pub buffer_check : (k n needed l : ℕ) → Result Unit Refusal
buffer_check k n needed l = then (sizable k n) (unless (nat_le needed l) 9)

-- whether a buffer of l numbers serves k shuttles with n moves
unfoldable pub plain_check : (k n l : ℕ) → Result Unit Refusal
plain_check k n l = buffer_check k n (k * k * n) l

-- a table that is made over a buffer of l numbers: it has one shuttle with one move, and so no cell, where the check refuses
abbrev pub plain_made : (k n l : ℕ) → Meaning
plain_made k n l = if_done (plain_check k n l) (full_meaning 1 1 (λ s t i. None)) (full_meaning k n (λ s t i. None))

-- how many numbers of the buffer it uses
abbrev pub plain_used : (k n l : ℕ) → ℕ
plain_used k n l = if_done (plain_check k n l) 0 (k * k * n)

-- the buffer with the first u numbers wiped
abbrev pub wiped_front : ℕ → List ℕ → List ℕ
wiped_front u cs = replicate u 65535 ++ drop u cs
