use Rattle.fulltree.proofs.Walks.{Up}
use Rattle.fulltree.proofs.tree.least.Given as goal

abbrev pub invariant-up : goal.invariant-up
invariant-up l = Up l.leaves l.row l.i l.best l.q

abbrev pub decreases-up : goal.decreases-up
decreases-up l = l.q
