use Rattle.std.proofs.Common.{arith, length-set}
use Rattle.fulltree.specs.Tree.{stored}
use Rattle.fulltree.proofs.Mending.{mended_step, mended_top}
use Rattle.fulltree.proofs.tree.store.Goals as goal

pub mend-preserved : goal.mend-preserved
mend-preserved c =
    let step = mended_step c.mend.q c.mend.row (omega arith) in
    (omega arith, simp length-set (omega arith), cc)

pub returns : goal.returns
unfolding stored
returns c =
    let top = mended_top c.mend.q c.mend.q c.mend.row (omega arith) in
    let at = c.leaf_at-q.ensures in
    cc
