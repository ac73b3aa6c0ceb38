use Rattle.std.proofs.Common.{rules}
use Rattle.fulltree.proofs.Walks.{up_starts, up_turns, up_ends}
use Rattle.fulltree.proofs.tree.least.Goals as goal

pub up-init : goal.up-init
up-init c = up_starts c.args.leaves c.args.row.now c.requires.tree c.args.i _ _ c.requires.inside (search rules) (search rules)

pub up-preserved : goal.up-preserved
up-preserved c = simp c.with_right-best.ensures (up_turns c.args.leaves c.args.row.now c.requires.tree c.args.i c.up.best c.up.q c.up-test.true c.up.invariant)

pub returns : goal.returns
returns c = up_ends c.args.leaves c.args.row.now c.requires.tree c.args.i c.up.best c.up.q c.up-test.false c.up.invariant
