-- What each call of a table answers, and what the table means afterwards. The checks come in this order:
-- both shuttles (1), that they differ (3), the place (2), the value (2), room for one more cell (8).
use Rattle.std.specs.Prelude.{ℕ, ◌&&◌, Some, None, Ok, Option, Result, ◌==◌, nat_le, nat_lt}
use Rattle.words.specs.declared.Refusal.{Refusal}
use Rattle.words.specs.Refusals.{passed, then, unless, refused_if, if_done}
use Rattle.tables.specs.Meaning.{Meaning, filled, with_cell, least_of, last_of}

-- whether the numbers of a cell are taken, and if not, why
unfoldable pub allowed : (k n s t i : ℕ) → Result Unit Refusal
allowed k n s t i = then (unless (nat_lt s k) 1) (then (unless (nat_lt t k) 1) (then (refused_if (s == t) 3) (unless (nat_lt i n) 2)))

-- whether a value is taken
unfoldable pub valued : (n j : ℕ) → Result Unit Refusal
valued n j = unless (nat_lt j n) 2

-- whether a table can have k shuttles with n moves each
unfoldable pub sizable : (k n : ℕ) → Result Unit Refusal
sizable k n = unless (nat_lt 0 k && (nat_le k 16 && (nat_lt 0 n && nat_le n 4096))) 11

-- whether a cell can be filled: it is filled already, or there is room for one more
abbrev pub room : Meaning → Option ℕ → Result Unit Refusal
room m None = unless (nat_lt (filled m) m.capacity) 8
room m (Some x) = passed

abbrev pub taken : Meaning → (s t i : ℕ) → Result Unit Refusal
taken m s t i = allowed m.shuttles m.moves s t i

abbrev pub cell_answer : Meaning → (s t i : ℕ) → Result (Option ℕ) Refusal
cell_answer m s t i = then (taken m s t i) (Ok (m.cell s t i))

abbrev pub put_answer : Meaning → (s t i j : ℕ) → Result Unit Refusal
put_answer m s t i j = then (taken m s t i) (then (valued m.moves j) (room m (m.cell s t i)))

abbrev pub put_after : Meaning → (s t i j : ℕ) → Meaning
put_after m s t i j = if_done (put_answer m s t i j) m (with_cell m s t i (Some j))

abbrev pub clear_answer : Meaning → (s t i : ℕ) → Result Unit Refusal
clear_answer m s t i = taken m s t i

abbrev pub clear_after : Meaning → (s t i : ℕ) → Meaning
clear_after m s t i = if_done (clear_answer m s t i) m (with_cell m s t i None)

abbrev pub least_answer : Meaning → (s t i : ℕ) → Result (Option ℕ) Refusal
least_answer m s t i = then (taken m s t i) (Ok (least_of (m.cell s t) i m.moves))

abbrev pub last_answer : Meaning → (s t j : ℕ) → Result (Option ℕ) Refusal
last_answer m s t j = then (taken m s t j) (Ok (last_of (m.cell s t) j m.moves))
