use Rattle.std.proofs.Common.{◌+◌, ◌-◌, ◌/◌, ◌<◌, refl, arith}
use Rattle.sparse.proofs.Kids.{reads, kids, relink, fits_in, under_in}
use Rattle.sparse.proofs.Shrunk.{top_in, pull_left, pull_right}
use Rattle.sparse.proofs.tree.+pull.Goals as goal

pub read-node-requires : goal.read-node-requires
read-node-requires t c = reads _ _ _ _ _ _ c.requires.stands.0 refl c.requires.stands.1

-- the upper half has a place other than the root's, so it is narrower than the whole
pub pull-rest-requires-in-Right : goal.pull-rest-requires-in-Right
pull-rest-requires-in-Right t c =
    let k = kids c.requires.stands.0 refl c.read-node.ensures c.requires.stands.1 in
    let chosen = c.in-Right.ensures c.args.tree k.l k.r k.left_shows k.right_shows in
    let inside = top_in _ k.r chosen.1 in
    let fall : c.args.hi - (c.args.lo + c.args.hi) / 2 < t =
    omega (arith, c.decreases, k.low, k.high, fits_in _ _ k.r _ k.right_shows.fits inside, (under_in _ k.r _ k.right_under inside).2) in
    (fall, (c.requires.small, (k.r, relink chosen.0 k.right_shows)))

pub returns-in-Left : goal.returns-in-Left
returns-in-Left t c tree e s top =
    let k = kids tree refl c.read-node.ensures s in
    let chosen = c.in-Left.ensures c.args.tree k.l k.r k.left_shows k.right_shows in
    let sub = c.pull-rest.ensures k.l c.in-Left.entry (relink chosen.0 k.left_shows) chosen.1 in
    pull_left k c.pull-rest.new.records c.pull-rest.result.freed c.args.next e c.in-Left.entry c.read-node.ensures c.pull-rest.auto.records top
    c.pull-rest.result.link c.write.new.records c.write.ensures chosen.1 chosen.2 sub

pub returns-in-Right : goal.returns-in-Right
returns-in-Right t c tree e s top =
    let k = kids tree refl c.read-node.ensures s in
    let chosen = c.in-Right.ensures c.args.tree k.l k.r k.left_shows k.right_shows in
    let sub = c.pull-rest-in-Right.ensures k.r c.in-Right.entry (relink chosen.0 k.right_shows) chosen.1 in
    pull_right k c.pull-rest-in-Right.new.records c.pull-rest-in-Right.result.freed c.args.next e c.in-Right.entry c.read-node.ensures c.pull-rest-in-Right.auto.records top
    c.pull-rest-in-Right.result.link c.write-in-Right.new.records c.write-in-Right.ensures chosen.1 chosen.2 sub

pub choose-requires-clause-right : goal.choose-requires-clause-right
choose-requires-clause-right t c =
    let k = kids c.requires.stands.0 refl c.read-node.ensures c.requires.stands.1 in (c.args.tree, k.r, k.right_shows)
