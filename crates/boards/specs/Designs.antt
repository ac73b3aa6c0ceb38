-- The limits of the board that a design asks for.
use Rattle.std.specs.Prelude.{ℕ, ◌-◌, ◌*◌, min}
use Rattle.words.specs.declared.kinds.TableKind.{TableKind}
use Rattle.words.specs.declared.kinds.TableKind.TheVariants.{Plain, Full, Sparse}
use Rattle.words.specs.Refusals.{if_done}
use Rattle.tables.specs.Meaning.{Meaning}
use Rattle.tables.specs.Answers.{sizable}
use Rattle.board.specs.Standing.{Limits}
use Rattle.boards.specs.declared.Design.{Design}

-- how many cells a table of k shuttles with n moves can fill, where a sparse tree has c records
abbrev pub cells_of : TableKind → (k n c : ℕ) → ℕ
cells_of Plain k n c = k * (k - 1) * n
cells_of Full k n c = k * (k - 1) * n
cells_of Sparse k n c = min c 65535

-- the shuttles, the moves and the waits of the design, and the cells of its kind; one shuttle with one move, and so no cell, where no table has these sizes
abbrev pub limits_of : Design → Limits
limits_of d = record {
  shuttles = if_done (sizable d.aisle.shuttles d.aisle.moves) 1 d.aisle.shuttles;
  moves = if_done (sizable d.aisle.shuttles d.aisle.moves) 1 d.aisle.moves;
  cells = if_done (sizable d.aisle.shuttles d.aisle.moves) 0 (cells_of d.table d.aisle.shuttles d.aisle.moves d.cells);
  waits = min d.waits 65535;
}

-- the limits of a board over a table that means this and a store of so many records
abbrev pub limits_with : Meaning → ℕ → Limits
limits_with m w = record { shuttles = m.shuttles; moves = m.moves; cells = m.capacity; waits = min w 65535 }
