use Rattle.std.proofs.Common.{◌∙◌, arith, length-set}
use Rattle.running.proofs.Reaching.{counts_more, reaches}
use Rattle.running.proofs.filling.bounds_of.Goals as goal

pub loop-t-preserved : goal.loop-t-preserved
loop-t-preserved g c =
    let few = (g.T.Table.lawful c.args.table.now).shuttles_few in (
      length-set c.loop-t.bounds _ _ ∙ c.loop-t.invariant.0,
      counts_more _ c.args.v c.loop-t.t c.bound.result c.loop-t.bounds (omega (arith, c.loop-t.invariant.0)) c.loop-t.invariant.1 c.bound.ensures,
    )

pub returns : goal.returns
returns g c = reaches _ c.args.v c.loop-t.bounds (λ q l. c.loop-t.invariant.1 q (omega arith))
