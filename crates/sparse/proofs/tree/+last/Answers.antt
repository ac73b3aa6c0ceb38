use Rattle.std.proofs.Common.{◌≡◌, ap, arith}
use Rattle.sparse.specs.Trees.{there}
use Rattle.sparse.proofs.Kids.{reads, kids, left_falls, right_falls}
use Rattle.sparse.proofs.Finds.{last_none, last_right, last_here, last_left}
use Rattle.sparse.proofs.tree.+last.Goals as goal

pub read-node-requires : goal.read-node-requires
read-node-requires t c = reads _ _ _ _ _ _ c.requires.stands.1 c.in-Some.is c.requires.stands.2

pub returns-then-node-j : goal.returns-then-node-j
returns-then-node-j t c g tree s = last_none (kids tree c.in-Some.is c.read-node.ensures s) c.args.j c.if-node-j.true

pub returns-in-Some-last : goal.returns-in-Some-last
returns-in-Some-last t c g tree s =
    let k = kids tree c.in-Some.is c.read-node.ensures s in
    last_right k c.args.j c.in-Some-last.q c.later_of.result c.later_of.ensures c.if-node-j.false
    (c.in-Some-last.ensures g k.r k.right_shows)

pub returns-then-mid-node : goal.returns-then-mid-node
returns-then-mid-node t c g tree s =
    let k = kids tree c.in-Some.is c.read-node.ensures s in
    last_here k c.args.j c.if-mid-node.true c.if-node-j.false (c.in-None-last.ensures g k.r k.right_shows)

pub returns-else-mid-node : goal.returns-else-mid-node
returns-else-mid-node t c g tree s =
    let k = kids tree c.in-Some.is c.read-node.ensures s in
    last_left k c.args.j c.later_of-in-None-last.result c.last-l.result c.later_of-in-None-last.ensures c.if-node-j.false
    (c.in-None-last.ensures g k.r k.right_shows) (c.last-l.ensures g k.l k.left_shows)

pub last-requires : goal.last-requires
last-requires t c =
    let k = kids c.requires.stands.1 c.in-Some.is c.read-node.ensures c.requires.stands.2 in
    let is : there c.args.at ≡ 1 = ap there c.in-Some.is in
    (omega (arith, c.decreases, right_falls k), (omega (arith, k.low, k.high), (omega (arith, c.requires.small), (c.requires.stands.0, k.r, k.right_shows))))

pub last-l-requires : goal.last-l-requires
last-l-requires t c =
    let k = kids c.requires.stands.1 c.in-Some.is c.read-node.ensures c.requires.stands.2 in
    let is : there c.args.at ≡ 1 = ap there c.in-Some.is in
    (omega (arith, c.decreases, left_falls k), (omega (arith, k.low, k.high), (omega (arith, c.requires.small), (c.requires.stands.0, k.l, k.left_shows))))
