use Rattle.std.proofs.Common.{◌≡◌, ℕ, ◌<◌, cond, eqb, length, Some}
use Rattle.order.specs.Rounds.{entry}
use Rattle.questions.specs.Looking.{look_of, Places}
use Rattle.questions.proofs.rounds.begin.Given as goal

-- the first r entries are written
abbrev pub invariant-loop-r : goal.invariant-loop-r
invariant-loop-r g l =
    (length l.row ≡ 16)
    × Places (g.T.Table.meaning l.table).moves l.row
    × ((q : ℕ) → q < l.r → entry l.row q ≡ cond (eqb q l.s) (Some l.i) (look_of l.way (g.T.Table.meaning l.table) l.s q l.i))
