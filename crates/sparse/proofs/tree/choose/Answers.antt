use Rattle.sparse.proofs.Kids.{reads, kids}
use Rattle.sparse.proofs.Shrunk.{top_kids, halves_differ, left_over, right_over}
use Rattle.sparse.proofs.tree.choose.Goals as goal

pub read-requires : goal.read-requires
read-requires c = reads _ _ _ _ _ _ c.requires.right.1 c.in-None-Some.is-1 c.requires.right.2

pub read-requires-in-Some-None : goal.read-requires-in-Some-None
read-requires-in-Some-None c = reads _ _ _ _ _ _ c.requires.left.1 c.in-Some-None.is-0 c.requires.left.2

pub read-requires-in-Some-Some : goal.read-requires-in-Some-Some
read-requires-in-Some-Some c = reads _ _ _ _ _ _ c.requires.left.1 c.in-Some-Some.is-0 c.requires.left.2

pub read-requires-in-Some-Some-2 : goal.read-requires-in-Some-Some-2
read-requires-in-Some-Some-2 c = reads _ _ _ _ _ _ c.requires.right.1 c.in-Some-Some.is-1 c.requires.right.2

pub stands_above-requires : goal.stands_above-requires
stands_above-requires c =
    let l = kids c.requires.left.1 c.in-Some-Some.is-0 c.read-in-Some-Some.ensures c.requires.left.2 in
    let r = kids c.requires.right.1 c.in-Some-Some.is-1 c.read-in-Some-Some-2.ensures c.requires.right.2 in
    halves_differ _ _ _ c.requires.left.1 c.requires.right.1 _ _ c.requires.left.2.fits c.requires.right.2.fits (top_kids l) (top_kids r)

pub returns-then-stands_above : goal.returns-then-stands_above
returns-then-stands_above c g l r ls rs =
    let p = top_kids (kids l c.in-Some-Some.is-0 c.read-in-Some-Some.ensures ls) in
    let q = top_kids (kids r c.in-Some-Some.is-1 c.read-in-Some-Some-2.ensures rs) in
    (c.in-Some-Some.is-0, p, left_over _ _ _ l r _ _ ls.fits rs.fits p q (c.stands_above.ensures.0 c.if-stands_above.true))

pub returns-else-stands_above : goal.returns-else-stands_above
returns-else-stands_above c g l r ls rs =
    let p = top_kids (kids l c.in-Some-Some.is-0 c.read-in-Some-Some.ensures ls) in
    let q = top_kids (kids r c.in-Some-Some.is-1 c.read-in-Some-Some-2.ensures rs) in
    (c.in-Some-Some.is-1, q, right_over _ _ _ l r _ _ ls.fits rs.fits p q (c.stands_above.ensures.1 c.if-stands_above.false))
