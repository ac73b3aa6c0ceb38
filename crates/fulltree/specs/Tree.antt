-- A tree of least numbers over p leaves, in a row of 2 p numbers: the leaf of the place i is the number p + i,
-- and the number q with 0 < q < p is the smaller of the numbers 2 q and 2 q + 1.
use Rattle.std.specs.Prelude.{◌≡◌, ℕ, zero, suc, ◌+◌, ◌*◌, ◌/◌, ◌%◌, ◌<◌, ◌≤◌, min, Bool, true, cond, ◌&&◌, ◌||◌, List, length, Option, ◌==◌, nat_le, nat_lt, slice_index, slice_set}
use Rattle.tables.specs.Meaning.{smaller}
use Rattle.tables.specs.Plain.{decoded}
use Rattle.fulltree.specs.Leaves.{Power}

-- what the number q stands for
abbrev pub node : List ℕ → ℕ → Option ℕ
node row q = decoded (slice_index row q)

-- what the place i holds
abbrev pub leaf : ℕ → List ℕ → ℕ → Option ℕ
leaf p row i = node row (p + i)

-- the smaller of the two numbers below q
abbrev pub lower : List ℕ → ℕ → ℕ
lower row q = min (slice_index row (2 * q)) (slice_index row (2 * q + 1))

-- whether the number q is right in a tree for m places: 65,535 stands at 0, and for an empty place, and so at each leaf from m on
abbrev pub right_at : (m p : ℕ) → List ℕ → ℕ → Bool
right_at m p row q =
    cond (nat_lt q p)
    (cond (q == 0) (slice_index row q == 65535) (slice_index row q == lower row q))
    (slice_index row q == 65535 || (nat_lt q (p + m) && nat_lt (slice_index row q) m))

abbrev pub all_below : (ℕ → Bool) → ℕ → Bool
all_below f zero = true
all_below f (suc n) = f n && all_below f n

-- whether each number of the row is
unfoldable pub tree_sound : (m p : ℕ) → List ℕ → Bool
tree_sound m p row = all_below (right_at m p row) (2 * p)

-- what the walks through a tree need
pub record Tree (p : ℕ) (row : List ℕ) : Type 0 where
  pub power : Power p
  pub few : p < 65536
  pub long : length row ≡ 2 * p
  pub inner : (q : ℕ) → 0 < q → q < p → slice_index row q ≡ lower row q
  pub small : (q : ℕ) → 0 < q → q < 2 * p → slice_index row q ≤ 65535

-- the row after the number q has changed: each number above it becomes the smaller of its two again, in f steps at most
abbrev pub mended : (f q : ℕ) → List ℕ → List ℕ
mended zero q row = row
mended (suc f) q row = cond (nat_le q 1) row (mended f (q / 2) (slice_set row (q / 2) (lower row (q / 2))))

-- the row with the number v at the leaf of the place i: p + i steps are enough
unfoldable pub stored : ℕ → List ℕ → (i v : ℕ) → List ℕ
stored p row i v = mended (p + i) (p + i) (slice_set row (p + i) v)

-- the smaller of best and the number beside q, where q is the left one of two
abbrev pub best_with_right : (ℕ → Option ℕ) → Option ℕ → ℕ → Option ℕ
best_with_right f best q = cond (q % 2 == 0) (smaller best (f (q + 1))) best

-- the one of the two below q to go on with: the right one, where its number is at most j
abbrev pub way_down : List ℕ → (j q : ℕ) → ℕ
way_down row j q = cond (nat_le (slice_index row (2 * q + 1)) j) (2 * q + 1) (2 * q)
