use Rattle.std.proofs.Common.{refl, arith}
use Rattle.board.specs.Standing.{limits}
use Rattle.runs.proofs.Outcome.{only_outcome}
use Rattle.runs.proofs.Replaying.{going_none, going_more, going_ends, rest_more}
use Rattle.runs.proofs.replays.replay.Goals as goal

pub loop-call-init : goal.loop-call-init
loop-call-init g c = record { going = going_none _ c.args.calls.now _ _ c.make-board.ensures; rest = refl }

pub loop-call-preserved : goal.loop-call-preserved
loop-call-preserved g c =
    let b = limits (g.T.Table.meaning c.args.table) (g.S.Store.holding c.args.store) in
    let i = c.loop-call.invariant in
    record {
      going = going_more b c.args.calls.now c.loop-call.calls c.loop-call.call-index c.call-item.result c.make_call.new.call (omega arith) (omega arith) i.rest i.going c.make_call.ensures;
      rest = rest_more b c.args.calls.now c.loop-call.calls c.loop-call.call-index c.call-item.result c.make_call.new.call (omega arith) (omega arith) i.rest;
    }

pub returns : goal.returns
returns g c =
    let b = limits (g.T.Table.meaning c.args.table) (g.S.Store.holding c.args.store) in
    let p = going_ends b c.args.calls.now c.loop-call.calls c.loop-call.call-index (omega arith) (omega arith) c.loop-call.invariant.going in
    record { law = p; only = only_outcome b c.args.calls.now c.loop-call.calls p }
