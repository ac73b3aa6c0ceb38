use Rattle.std.proofs.Common.{◌-◌}
use Rattle.sparse.proofs.tree.+insert.Given as goal

abbrev pub decreases-insert : goal.decreases-insert
decreases-insert l = l.hi - l.lo
