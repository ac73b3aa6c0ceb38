use Rattle.std.proofs.Common.{◌≡◌, ap, arith}
use Rattle.sparse.specs.Trees.{there}
use Rattle.sparse.proofs.Kids.{reads, kids, right_falls}
use Rattle.sparse.proofs.Finds.{found_left, found_right}
use Rattle.sparse.proofs.tree.+find.Goals as goal

pub read-node-requires : goal.read-node-requires
read-node-requires t c = reads _ _ _ _ _ _ c.requires.stands.1 c.in-Some.is c.requires.stands.2

pub returns-then-place-mid : goal.returns-then-place-mid
returns-then-place-mid t c g tree s =
    let k = kids tree c.in-Some.is c.read-node.ensures s in
    found_left k c.args.place c.if-node-place.false c.if-place-mid.true c.find.result (c.find.ensures g k.l k.left_shows)

pub returns-else-place-mid : goal.returns-else-place-mid
returns-else-place-mid t c g tree s =
    let k = kids tree c.in-Some.is c.read-node.ensures s in
    found_right k c.args.place c.if-node-place.false c.if-place-mid.false c.find-else-place-mid.result (c.find-else-place-mid.ensures g k.r k.right_shows)

pub find-requires-else-place-mid : goal.find-requires-else-place-mid
find-requires-else-place-mid t c =
    let k = kids c.requires.stands.1 c.in-Some.is c.read-node.ensures c.requires.stands.2 in
    let is : there c.args.at ≡ 1 = ap there c.in-Some.is in
    (omega (arith, c.decreases, right_falls k), (omega (arith, k.low, k.high), (omega (arith, c.requires.small), (c.requires.stands.0, k.r, k.right_shows))))
