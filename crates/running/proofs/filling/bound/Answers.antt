use Rattle.std.proofs.Common.{sym, subst}
use Rattle.running.specs.Progress.{Counts}
use Rattle.running.proofs.Reaching.{counts}
use Rattle.running.proofs.filling.bound.Goals as goal

pub returns : goal.returns
returns g c =
    let m = g.T.Table.meaning c.args.table.now in
    subst (Counts m c.args.v c.args.t) (sym c.count.ensures) (counts m (g.T.Table.lawful c.args.table.now).moves_few c.args.v c.args.t _ _ c.nearest-answer.ensures)
