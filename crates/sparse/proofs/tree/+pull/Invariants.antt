use Rattle.std.proofs.Common.{◌-◌}
use Rattle.sparse.proofs.tree.+pull.Given as goal

abbrev pub decreases-pull : goal.decreases-pull
decreases-pull l = l.hi - l.lo
