-- Moves and their 16-bit codes: s.i has the code s * 4096 + i.
use Rattle.std.specs.Prelude.{ℕ, ◌+◌, ◌*◌, ◌/◌, ◌%◌}
use Rattle.order.specs.Board.{Move}

-- the move with this code
abbrev pub move_of : ℕ → Move
move_of c = (c / 4096, c % 4096)

-- the code of the move s.i
abbrev pub code_of : ℕ → ℕ → ℕ
code_of s i = s * 4096 + i
