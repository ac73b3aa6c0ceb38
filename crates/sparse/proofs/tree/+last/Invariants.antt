use Rattle.std.proofs.Common.{◌+◌, ◌-◌, ◌*◌}
use Rattle.sparse.specs.Trees.{there}
use Rattle.sparse.proofs.tree.+last.Given as goal

abbrev pub decreases-last : goal.decreases-last
decreases-last l = 2 * (l.hi - l.lo) + there l.at
