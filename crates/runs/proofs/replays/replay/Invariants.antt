use Rattle.std.proofs.Common.{◌≡◌, drop}
use Rattle.board.specs.Standing.{limits}
use Rattle.runs.proofs.Replaying.{Going}
use Rattle.runs.proofs.replays.replay.Given as goal

-- the calls so far are made, and the others are as they were
abbrev pub invariant-loop-call : goal.invariant-loop-call
invariant-loop-call g l = record {
  going : Going (limits (g.T.Table.meaning l.fn.table) (g.S.Store.holding l.fn.store)) l.initial.calls l.calls l.call-index (g.T.Table.meaning l.board.table) (g.S.Store.holding l.board.store);
  rest : drop l.call-index l.calls ≡ drop l.call-index l.initial.calls;
}
