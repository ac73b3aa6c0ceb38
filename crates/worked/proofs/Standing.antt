-- The waits of the cases may stand: each is placed after the others, and closes no circle.
use Rattle.std.proofs.Common.{◌≡◌, ℕ, ◌/◌, false, [], ◌∷◌, None, Option, refl, arith}
use Rattle.words.specs.Refusals.{passed}
use Rattle.words.specs.Codes.{move_of, code_of}
use Rattle.tables.specs.Meaning.{filled_of}
use Rattle.tables.specs.Answers.{allowed}
use Rattle.order.specs.Board.{rows}
use Rattle.order.proofs.Rows.{starts}
use Rattle.questions.specs.declared.rounds.Way.TheVariants.{After}
use Rattle.questions.specs.Checks.{move_check, moves_check}
use Rattle.questions.specs.Asking.{up_to, Finding}
use Rattle.board.specs.Steps.{Closes}
use Rattle.board.specs.Standing.{Waits, Sound, meant, Placed}
use Rattle.board.proofs.Placed.{placed_says, placed_stands}
use Rattle.worked.specs.Cases.{aisle, chained, forked, CasesStand}
use Rattle.worked.proofs.Asking.{in_one}

-- the table's answer to the question whether v is before u
pub closes : (W : Waits) (u v : ℕ) → passed ≡ moves_check 3 3 v u → (o : Option ℕ) (c : ℕ) → Finding After (meant aisle W) v (u / 4096) o c → Closes (meant aisle W) u v (up_to o u)
closes W u v ok o c f = (c, (ok, (o, f, refl)))

sound_none : Sound aisle []
sound_none = record { small = omega arith; apart = λ u v x e. x; single = tt; ordered = (rows 3 (λ _. 3), starts 3 (λ _. 3)) }

-- a wait that may be placed may stand
sound_more : (W : Waits) → Sound aisle W → (u v : ℕ) → Placed aisle W u v passed → Sound aisle ((move_of u, move_of v) ∷ W)
sound_more W h u v p = (placed_stands aisle W h u v passed p _ _ refl refl).sound

sound_chain : Sound aisle (((1, 2), (2, 0)) ∷ [])
unfolding allowed move_check filled_of
sound_chain =
    sound_more [] sound_none (code_of 1 2) (code_of 2 0)
    (placed_says aisle [] sound_none (code_of 1 2) (code_of 2 0) passed false
    (λ _. closes [] (code_of 1 2) (code_of 2 0) refl None 1 (in_one After [] (code_of 2 0) 1 (λ e. omega arith) refl)) refl)

sound_chained : Sound aisle chained
unfolding allowed move_check filled_of
sound_chained =
    let W : Waits = ((1, 2), (2, 0)) ∷ [] in
    sound_more W sound_chain (code_of 0 1) (code_of 1 1)
    (placed_says aisle W sound_chain (code_of 0 1) (code_of 1 1) passed false
    (λ _. closes W (code_of 0 1) (code_of 1 1) refl None 1 (in_one After W (code_of 1 1) 0 (λ e. omega arith) refl)) refl)

sound_fork : Sound aisle (((0, 0), (1, 0)) ∷ [])
unfolding allowed move_check filled_of
sound_fork =
    sound_more [] sound_none (code_of 0 0) (code_of 1 0)
    (placed_says aisle [] sound_none (code_of 0 0) (code_of 1 0) passed false
    (λ _. closes [] (code_of 0 0) (code_of 1 0) refl None 1 (in_one After [] (code_of 1 0) 0 (λ e. omega arith) refl)) refl)

sound_forked : Sound aisle forked
unfolding allowed move_check filled_of
sound_forked =
    let W : Waits = ((0, 0), (1, 0)) ∷ [] in
    sound_more W sound_fork (code_of 0 0) (code_of 1 2)
    (placed_says aisle W sound_fork (code_of 0 0) (code_of 1 2) passed false
    (λ _. closes W (code_of 0 0) (code_of 1 2) refl None 1 (in_one After W (code_of 1 2) 0 (λ e. omega arith) refl)) refl)

pub cases_stand : CasesStand
cases_stand = record { none_stand = sound_none; chained_stand = sound_chained; forked_stand = sound_forked }
