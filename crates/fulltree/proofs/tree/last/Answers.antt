use Rattle.fulltree.proofs.Walks.{down_none, down_starts, down_turns, down_ends}
use Rattle.fulltree.proofs.tree.last.Goals as goal

pub returns-then-row-j : goal.returns-then-row-j
returns-then-row-j c = down_none c.args.leaves c.args.row.now c.requires.tree c.args.j c.if-row-j.true

pub down-init : goal.down-init
down-init c = down_starts c.args.leaves c.args.row.now c.requires.tree c.args.j c.if-row-j.false

pub down-preserved : goal.down-preserved
down-preserved c = simp c.way_down-q.ensures (down_turns c.args.leaves c.args.row.now c.requires.tree c.args.j c.down.q c.down-test.true c.down.invariant)

pub returns : goal.returns
returns c = down_ends c.args.leaves c.args.row.now c.requires.tree c.args.j c.down.q c.requires.value c.down-test.false c.down.invariant
