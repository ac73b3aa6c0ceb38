use Rattle.std.proofs.Common.{◌≡◌, ◌*◌, arith}
use Rattle.running.proofs.Fills.{turn_more, turn_never, filled_end}
use Rattle.running.proofs.filling.fill.Goals as goal
use Rattle.running.proofs.filling.fill.Goals.{in-Some, in_default}

pub loop-p-preserved : goal.loop-p-preserved
loop-p-preserved g c =
    let m = g.T.Table.meaning c.args.table.now in
    let law = g.T.Table.lawful c.args.table.now in
    let all = c.sizes.result.aisle.shuttles * c.sizes.result.aisle.moves in
    elim c.match-next.branch [
      | in-Some w ↦
          turn_more m law.shuttles_few law.moves_few c.args.bounds.now c.args.out.now all c.loop-p.done c.loop-p.out c.loop-p.p (omega arith) (omega arith) c.loop-p.invariant
          w.in-Some.t w.in-Some.ensures c.match-next.done c.match-next.out w.done-is w.out-is
      | in_default w ↦
          turn_never m law.shuttles_few law.moves_few c.args.bounds.now c.args.out.now all c.loop-p.done c.loop-p.out c.loop-p.p (omega arith) (omega arith) c.loop-p.invariant
          (cc) w.in_default.ensures c.match-next.done c.match-next.out w.done-is w.out-is
    ]

pub returns : goal.returns
returns g c =
    let m = g.T.Table.meaning c.args.table.now in
    let all = c.sizes.result.aisle.shuttles * c.sizes.result.aisle.moves in
    let e : all ≡ m.shuttles * m.moves = cc in
    filled_end m c.args.bounds.now c.args.out.now all c.loop-p.done c.loop-p.out c.loop-p.p (omega arith) (omega arith) e c.loop-p.invariant
