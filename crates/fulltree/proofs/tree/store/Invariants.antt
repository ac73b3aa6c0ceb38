use Rattle.std.proofs.Common.{◌≡◌, ◌<◌, length}
use Rattle.fulltree.specs.Tree.{mended}
use Rattle.fulltree.proofs.tree.store.Given as goal

abbrev pub invariant-mend : goal.invariant-mend
invariant-mend l = (0 < l.q) × (l.q < length l.row) × (mended l.q l.q l.row ≡ mended l.initial.q l.initial.q l.initial.row)

abbrev pub decreases-mend : goal.decreases-mend
decreases-mend l = l.q
