-- Whether the numbers of a call are taken, and if not, why: a move's shuttle is checked before its place, and the first move before the second.
use Rattle.std.specs.Prelude.{ℕ, ◌/◌, ◌%◌, Result, ◌==◌, nat_lt}
use Rattle.words.specs.declared.Refusal.{Refusal}
use Rattle.words.specs.Refusals.{then, unless, refused_if}

abbrev pub shuttle_check : (k t : ℕ) → Result Unit Refusal
shuttle_check k t = unless (nat_lt t k) 1

-- whether the code u is that of a move of k shuttles with n moves
unfoldable pub move_check : (k n u : ℕ) → Result Unit Refusal
move_check k n u = then (shuttle_check k (u / 4096)) (unless (nat_lt (u % 4096) n) 2)

-- whether u and v are moves
abbrev pub moves_check : (k n u v : ℕ) → Result Unit Refusal
moves_check k n u v = then (move_check k n u) (move_check k n v)

-- whether u and v are moves of different shuttles
abbrev pub wait_check : (k n u v : ℕ) → Result Unit Refusal
wait_check k n u v = then (moves_check k n u v) (refused_if (u / 4096 == v / 4096) 3)

-- whether u is a move and t a shuttle
abbrev pub question_check : (k n u t : ℕ) → Result Unit Refusal
question_check k n u t = then (move_check k n u) (shuttle_check k t)
