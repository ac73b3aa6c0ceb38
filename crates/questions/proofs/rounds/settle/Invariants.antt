use Rattle.std.proofs.Common.{◌≡◌, length}
use Rattle.order.specs.Rounds.{pulled, swept}
use Rattle.questions.specs.Looking.{look_of, pick_of}
use Rattle.questions.proofs.Falls.{weight}
use Rattle.questions.proofs.Turns.{Turning}
use Rattle.questions.proofs.rounds.settle.Given as goal

abbrev pub invariant-rounds : goal.invariant-rounds
invariant-rounds g l =
    let m = g.T.Table.meaning l.table in
    Turning l.way m.moves (look_of l.way m) l.k l.s l.initial.row l.row l.rounds

abbrev pub decreases-rounds : goal.decreases-rounds
decreases-rounds g l = weight l.way (g.T.Table.meaning l.table).moves l.row

-- the shuttles below q have been taken
abbrev pub invariant-loop-q : goal.invariant-loop-q
invariant-loop-q g l =
    (l.row ≡ swept (pick_of l.way) (look_of l.way (g.T.Table.meaning l.table)) l.k l.s l.initial.row l.q)
    × (length l.row ≡ 16)

-- the shuttles below r have been looked at for q's entry
abbrev pub invariant-loop-r : goal.invariant-loop-r
invariant-loop-r g l =
    (l.row ≡ pulled (pick_of l.way) (look_of l.way (g.T.Table.meaning l.table)) l.initial.row l.q l.r)
    × (length l.row ≡ 16)
