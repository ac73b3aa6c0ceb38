-- What the numbers of a full tree mean: the buffer has a stretch of 2 p numbers for each pair of shuttles, a tree over p leaves.
use Rattle.std.specs.Prelude.{ℕ, ◌+◌, ◌*◌, ◌/◌, ◌%◌, ◌<◌, cond, List, ◌++◌, take, drop, is_ok, None, Option, Result, ◌==◌, ◌≢◌}
use Rattle.std.specs.List.{between}
use Rattle.words.specs.declared.Refusal.{Refusal}
use Rattle.words.specs.Refusals.{if_done}
use Rattle.tables.specs.Meaning.{Meaning, full_meaning}
use Rattle.tables.specs.Answers.{allowed}
use Rattle.tables.specs.Plain.{buffer_check}
use Rattle.fulltree.specs.Leaves.{leaves_of}
use Rattle.fulltree.specs.Tree.{leaf, stored}

-- the stretch q of the buffer, where each has w numbers
unfoldable pub stretch : (w : ℕ) → List ℕ → (q : ℕ) → List ℕ
stretch w cs q = between (q * w) (q * w + w) cs

-- the buffer with the row in the place of the stretch q
unfoldable pub with_stretch : (w : ℕ) → List ℕ → (q : ℕ) → List ℕ → List ℕ
with_stretch w cs q row = take (q * w) cs ++ (row ++ drop (q * w + w) cs)

-- which stretch the pair (s, t) has
abbrev pub pair_of : (k s t : ℕ) → ℕ
pair_of k s t = s * k + t

-- the buffer with the number v at the leaf of the cell (s, t, i)
abbrev pub full_stored : (k p : ℕ) → List ℕ → (s t i v : ℕ) → List ℕ
full_stored k p cs s t i v = with_stretch (2 * p) cs (pair_of k s t) (stored p (stretch (2 * p) cs (pair_of k s t)) i v)

-- how many places the tree of the stretch q has: none between a shuttle and itself
abbrev pub places : (k n q : ℕ) → ℕ
places k n q = cond (q / k == q % k) 0 n

-- what a cell holds, and none where there is no such cell
unfoldable pub full_cell : (k n p : ℕ) → List ℕ → (s t i : ℕ) → Option ℕ
full_cell k n p cs s t i = cond (is_ok (allowed k n s t i)) (leaf p (stretch (2 * p) cs (pair_of k s t)) i) None

abbrev pub tree_meaning : (k n p : ℕ) → List ℕ → Meaning
tree_meaning k n p cs = full_meaning k n (full_cell k n p cs)

-- s and t are two different shuttles of k
abbrev pub Pair : (k s t : ℕ) → Type 0
Pair k s t = (s < k) × (t < k) × (s ≢ t)

-- how many numbers k shuttles with n moves take
abbrev pub numbers_of : (k n : ℕ) → ℕ
numbers_of k n = k * k * (2 * leaves_of n)

-- whether a buffer of l numbers serves k shuttles with n moves
unfoldable pub full_check : (k n l : ℕ) → Result Unit Refusal
full_check k n l = buffer_check k n (numbers_of k n) l

-- a table that is made over a buffer of l numbers: it has one shuttle with one move, and so no cell, where the check refuses
abbrev pub full_made : (k n l : ℕ) → Meaning
full_made k n l = if_done (full_check k n l) (full_meaning 1 1 (λ s t i. None)) (full_meaning k n (λ s t i. None))

-- how many numbers of the buffer it uses
abbrev pub full_used : (k n l : ℕ) → ℕ
full_used k n l = if_done (full_check k n l) 0 (numbers_of k n)
