use Rattle.std.proofs.Common.{◌≡◌, ap, arith}
use Rattle.sparse.specs.Trees.{there}
use Rattle.sparse.proofs.Kids.{reads, kids, left_falls, right_falls}
use Rattle.sparse.proofs.Finds.{least_top, least_right, least_halves}
use Rattle.sparse.proofs.tree.+least.Goals as goal

pub read-node-requires : goal.read-node-requires
read-node-requires t c = reads _ _ _ _ _ _ c.requires.stands.1 c.in-Some.is c.requires.stands.2

pub returns-then-node-i : goal.returns-then-node-i
returns-then-node-i t c g tree s = least_top (kids tree c.in-Some.is c.read-node.ensures s) c.args.i c.if-node-i.true

pub returns-then-mid-i : goal.returns-then-mid-i
returns-then-mid-i t c g tree s =
    let k = kids tree c.in-Some.is c.read-node.ensures s in
    least_right k c.args.i c.least.result c.if-node-i.false c.if-mid-i.true (c.least.ensures g k.r k.right_shows)

pub returns-else-mid-i : goal.returns-else-mid-i
returns-else-mid-i t c g tree s =
    let k = kids tree c.in-Some.is c.read-node.ensures s in
    least_halves k c.args.i c.least-l.result c.least-r.result c.smaller.result c.smaller.ensures c.if-node-i.false
    (c.least-l.ensures g k.l k.left_shows) (c.least-r.ensures g k.r k.right_shows)

pub least-requires : goal.least-requires
least-requires t c =
    let k = kids c.requires.stands.1 c.in-Some.is c.read-node.ensures c.requires.stands.2 in
    let is : there c.args.at ≡ 1 = ap there c.in-Some.is in
    (omega (arith, c.decreases, right_falls k), (omega (arith, k.low, k.high), (omega (arith, c.requires.small), (c.requires.stands.0, k.r, k.right_shows))))

pub least-l-requires : goal.least-l-requires
least-l-requires t c =
    let k = kids c.requires.stands.1 c.in-Some.is c.read-node.ensures c.requires.stands.2 in
    let is : there c.args.at ≡ 1 = ap there c.in-Some.is in
    (omega (arith, c.decreases, left_falls k), (omega (arith, k.low, k.high), (omega (arith, c.requires.small), (c.requires.stands.0, k.l, k.left_shows))))

pub least-r-requires : goal.least-r-requires
least-r-requires t c =
    let k = kids c.requires.stands.1 c.in-Some.is c.read-node.ensures c.requires.stands.2 in
    let is : there c.args.at ≡ 1 = ap there c.in-Some.is in
    (omega (arith, c.decreases, right_falls k), (omega (arith, k.low, k.high), (omega (arith, c.requires.small), (c.requires.stands.0, k.r, k.right_shows))))
