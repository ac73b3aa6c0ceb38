use Rattle.std.proofs.Common.{◌≡◌, length, take}
use Rattle.order.specs.Board.{Edges}
use Rattle.running.specs.Orders.{moves_of}
use Rattle.running.specs.Calls.{Serves}
use Rattle.running.proofs.States.{State}
use Rattle.running.proofs.testing.test.Given as goal

abbrev pub invariant-loop-code : goal.invariant-loop-code
invariant-loop-code g l =
    (length l.done ≡ 16)
    × ((W : Edges) → Serves (g.T.Table.meaning l.table) W → State (g.T.Table.meaning l.table) W (moves_of (take l.code-index l.codes)) l.done)
