-- What a table means: its sizes, and what each cell holds.
use Rattle.std.specs.Prelude.{◌≡◌, ℕ, zero, suc, ◌+◌, ◌-◌, ◌*◌, ◌<◌, ◌≤◌, Bool, false, cond, ◌&&◌, Some, None, Option, ◌==◌, ◌≢◌, nat_le, nat_lt}
use Rattle.tables.specs.declared.table.Sizes.{Sizes}

-- k shuttles with n moves each; the cell of the shuttles s and t and the place i is `cell s t i`
pub record Meaning : Type 0 where
  pub shuttles : ℕ
  pub moves : ℕ
  pub capacity : ℕ
  pub cell : ℕ → ℕ → ℕ → Option ℕ

-- one for a filled cell
abbrev pub one : Option ℕ → ℕ
one None = 0
one (Some j) = 1

-- f 0 + .. + f (n - 1)
abbrev pub sum_below : ℕ → (ℕ → ℕ) → ℕ
sum_below zero f = 0
sum_below (suc n) f = sum_below n f + f n

-- how many of the cells of k shuttles with n moves are filled
unfoldable pub filled_of : (k n : ℕ) → (ℕ → ℕ → ℕ → Option ℕ) → ℕ
filled_of k n f = sum_below k (λ s. sum_below k (λ t. sum_below n (λ i. one (f s t i))))

abbrev pub filled : Meaning → ℕ
filled m = filled_of m.shuttles m.moves m.cell

-- what holds of every table: 1 to 16 shuttles, 1 to 4,096 moves, every value a place, no cell between a shuttle and itself or off the table,
-- and no more filled cells than the capacity, which a 32-bit number can tell
pub record Lawful (m : Meaning) : Type 0 where
  pub shuttles_some : 0 < m.shuttles
  pub shuttles_few : m.shuttles ≤ 16
  pub moves_some : 0 < m.moves
  pub moves_few : m.moves ≤ 4096
  pub value_below : (s t i j : ℕ) → m.cell s t i ≡ Some j → j < m.moves
  pub cell_inside : (s t i j : ℕ) → m.cell s t i ≡ Some j → (s < m.shuttles) × (t < m.shuttles) × (s ≢ t) × (i < m.moves)
  pub filled_le : filled m ≤ m.capacity

-- a table that can fill every cell of two different shuttles
abbrev pub full_meaning : (k n : ℕ) → (ℕ → ℕ → ℕ → Option ℕ) → Meaning
full_meaning k n f = record { shuttles = k; moves = n; capacity = k * (k - 1) * n; cell = f }

-- the numbers of shuttles and of moves that a table can have
abbrev pub Small : (k n : ℕ) → Type 0
Small k n = (0 < k) × (k ≤ 16) × (0 < n) × (n ≤ 4096)

-- the sizes that a table tells
pub record Sized (m : Meaning) (r : Sizes) : Type 0 where
  pub shuttles : r.aisle.shuttles ≡ m.shuttles
  pub moves : r.aisle.moves ≡ m.moves
  pub capacity : r.capacity ≡ m.capacity
  pub filled_cells : r.filled ≡ filled m

abbrev pub same_cell : (s t i a b c : ℕ) → Bool
same_cell s t i a b c = a == s && b == t && c == i

-- the meaning with one cell changed to v
abbrev pub with_cell : Meaning → (s t i : ℕ) → Option ℕ → Meaning
with_cell m s t i v = record {
  shuttles = m.shuttles;
  moves = m.moves;
  capacity = m.capacity;
  cell = λ a b c. cond (same_cell s t i a b c) v (m.cell a b c);
}

-- the meaning with every cell empty
abbrev pub wiped : Meaning → Meaning
wiped m = record {
  shuttles = m.shuttles;
  moves = m.moves;
  capacity = m.capacity;
  cell = λ a b c. None;
}

-- the smaller of two values, where none is greater than each number
abbrev pub smaller : Option ℕ → Option ℕ → Option ℕ
smaller None y = y
smaller (Some x) None = Some x
smaller (Some x) (Some y) = Some (cond (nat_lt y x) y x)

-- the smallest value of f at i, .., n - 1. `Smallest` of the order's specs says it without the recursion, and `least_smallest` proves that this is it
abbrev pub least_of : (ℕ → Option ℕ) → ℕ → ℕ → Option ℕ
least_of f i zero = None
least_of f i (suc n) = cond (nat_le i n) (smaller (least_of f i n) (f n)) None

abbrev pub at_most : ℕ → Option ℕ → Bool
at_most j None = false
at_most j (Some x) = nat_le x j

-- the greatest place below n whose value is at most j; `Greatest` says it without the recursion, and `last_greatest` proves it
abbrev pub last_of : (ℕ → Option ℕ) → ℕ → ℕ → Option ℕ
last_of f j zero = None
last_of f j (suc n) = cond (at_most j (f n)) (Some n) (last_of f j n)
