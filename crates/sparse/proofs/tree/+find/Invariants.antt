use Rattle.std.proofs.Common.{◌+◌, ◌-◌, ◌*◌}
use Rattle.sparse.specs.Trees.{there}
use Rattle.sparse.proofs.tree.+find.Given as goal

abbrev pub decreases-find : goal.decreases-find
decreases-find l = 2 * (l.hi - l.lo) + there l.at
