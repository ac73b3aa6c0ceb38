use Rattle.std.proofs.Common.{◌-◌}
use Rattle.fulltree.proofs.Walks.{Down}
use Rattle.fulltree.proofs.tree.last.Given as goal

abbrev pub invariant-down : goal.invariant-down
invariant-down l = Down l.leaves l.row l.j l.q

abbrev pub decreases-down : goal.decreases-down
decreases-down l = l.leaves - l.q
