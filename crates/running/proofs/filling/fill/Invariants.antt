use Rattle.running.proofs.Fills.{Turn}
use Rattle.running.proofs.filling.fill.Given as goal

abbrev pub invariant-loop-p : goal.invariant-loop-p
invariant-loop-p g l = Turn (g.T.Table.meaning l.table) l.bounds l.total l.initial.out l.out l.done l.p
