use Rattle.std.proofs.Common.{◌+◌, ◌-◌, ◌*◌}
use Rattle.sparse.specs.Trees.{there}
use Rattle.sparse.proofs.tree.+least.Given as goal

abbrev pub decreases-least : goal.decreases-least
decreases-least l = 2 * (l.hi - l.lo) + there l.at
