-- What the records of a sparse tree mean.
use Rattle.std.specs.Prelude.{ℕ, min, cond, List, length, is_ok, None, Option}
use Rattle.words.specs.Refusals.{if_done}
use Rattle.tables.specs.Meaning.{Meaning}
use Rattle.tables.specs.Answers.{allowed, sizable}
use Rattle.sparse.specs.declared.record.Record.{Record}
use Rattle.sparse.specs.Form.{held_in, tree_number}

-- what a cell holds, and none where there is no such cell
unfoldable pub sparse_cell : (k n : ℕ) → List (Option ℕ) → List Record → (s t i : ℕ) → Option ℕ
sparse_cell k n roots xs s t i = cond (is_ok (allowed k n s t i)) (held_in n roots xs (tree_number s t) i) None

-- a table can fill as many cells as it has records
abbrev pub sparse_meaning : (k n : ℕ) → List (Option ℕ) → List Record → Meaning
sparse_meaning k n roots xs = record { shuttles = k; moves = n; capacity = length xs; cell = sparse_cell k n roots xs }

-- how many of l records a table uses: 65,535 at most, and none where the check refuses its sizes
abbrev pub sparse_used : (k n l : ℕ) → ℕ
sparse_used k n l = if_done (sizable k n) 0 (min l 65535)

-- a table that is made over l records: it has one shuttle with one move, and so no cell, where the check refuses
abbrev pub sparse_made : (k n l : ℕ) → Meaning
sparse_made k n l = record {
  shuttles = if_done (sizable k n) 1 k;
  moves = if_done (sizable k n) 1 n;
  capacity = sparse_used k n l;
  cell = λ s t i. None;
}
