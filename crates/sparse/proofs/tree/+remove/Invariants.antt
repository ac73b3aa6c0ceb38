use Rattle.std.proofs.Common.{◌-◌}
use Rattle.sparse.proofs.tree.+remove.Given as goal

abbrev pub decreases-remove : goal.decreases-remove
decreases-remove l = l.hi - l.lo
