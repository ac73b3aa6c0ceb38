use Rattle.std.proofs.Common.{◌+◌, ◌-◌, ◌/◌, ◌<◌, arith}
use Rattle.sparse.proofs.Kids.{reads, kids, fits_in}
use Rattle.sparse.proofs.Finds.{in_left, in_right}
use Rattle.sparse.proofs.Shrunk.{remove_left, remove_right}
use Rattle.sparse.proofs.tree.+remove.Goals as goal

pub read-node-requires : goal.read-node-requires
read-node-requires t c = reads _ _ _ _ _ _ c.requires.stands.0 c.in-Some.is c.requires.stands.1

pub remove-rest-requires : goal.remove-rest-requires
remove-rest-requires t c =
    let k = kids c.requires.stands.0 c.in-Some.is c.read-node.ensures c.requires.stands.1 in
    let e = c.requires.stands.2 in
    let h = in_left k c.args.place c.if-node-place.false c.if-place-mid.true e.0 e.1 e.2 in
    let b = fits_in _ _ k.l e.0 k.left_shows.fits h in
    let fall : (c.args.lo + c.args.hi) / 2 - c.args.lo < t = omega (arith, c.decreases, k.low, k.high) in
    (fall, (omega (arith, c.requires.small, k.low, k.high), (k.l, k.left_shows, (e.0, h, e.2))))

pub remove-rest-requires-else-place-mid : goal.remove-rest-requires-else-place-mid
remove-rest-requires-else-place-mid t c =
    let k = kids c.requires.stands.0 c.in-Some.is c.read-node.ensures c.requires.stands.1 in
    let e = c.requires.stands.2 in
    let h = in_right k c.args.place c.if-node-place.false c.if-place-mid.false e.0 e.1 e.2 in
    let b = fits_in _ _ k.r e.0 k.right_shows.fits h in
    let fall : c.args.hi - (c.args.lo + c.args.hi) / 2 < t = omega (arith, c.decreases, k.low, k.high, c.if-node-place.false) in
    (fall, (c.requires.small, (k.r, k.right_shows, (e.0, h, e.2))))

pub returns-then-place-mid : goal.returns-then-place-mid
returns-then-place-mid t c tree s =
    let k = kids tree c.in-Some.is c.read-node.ensures s in
    remove_left k c.remove-rest.new.records c.remove-rest.result.freed c.args.next c.args.place c.read-node.ensures c.remove-rest.auto.records c.if-node-place.false
    c.remove-rest.result.link c.write.new.records c.write.ensures c.if-place-mid.true (c.remove-rest.ensures k.l k.left_shows)

pub returns-else-place-mid : goal.returns-else-place-mid
returns-else-place-mid t c tree s =
    let k = kids tree c.in-Some.is c.read-node.ensures s in
    remove_right k c.remove-rest-else-place-mid.new.records c.remove-rest-else-place-mid.result.freed c.args.next c.args.place c.read-node.ensures c.remove-rest-else-place-mid.auto.records c.if-node-place.false
    c.remove-rest-else-place-mid.result.link c.write-else-place-mid.new.records c.write-else-place-mid.ensures c.if-place-mid.false (c.remove-rest-else-place-mid.ensures k.r k.right_shows)
