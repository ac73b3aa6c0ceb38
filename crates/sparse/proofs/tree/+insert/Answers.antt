use Rattle.std.proofs.Common.{◌+◌, ◌-◌, ◌/◌, ◌<◌, sym, subst, arith}
use Rattle.sparse.specs.Trees.{Inserted}
use Rattle.sparse.proofs.Kids.{reads, kids}
use Rattle.sparse.proofs.Grown.{first, bounds, down_lacks, lacks_kids, insert_left, insert_right}
use Rattle.sparse.proofs.tree.+insert.Goals as goal

pub read-node-requires : goal.read-node-requires
read-node-requires t c = reads _ _ _ _ _ _ c.requires.stands.0 c.in-Some.is c.requires.stands.1

pub rank-ranked-requires : goal.rank-ranked-requires
rank-ranked-requires t c =
    let k = kids c.requires.stands.0 c.in-Some.is c.read-node.ensures c.requires.stands.1 in
    λ e. (lacks_kids _ _ _ k.l k.r _ k.is c.requires.stands.2).0 (sym e)

pub insert-left-requires : goal.insert-left-requires
insert-left-requires t c =
    let k = kids c.requires.stands.0 c.in-Some.is c.read-node.ensures c.requires.stands.1 in
    let lack = lacks_kids _ _ _ k.l k.r _ k.is c.requires.stands.2 in
    let b = bounds c.args.lo c.args.hi _ _ _ _ c.rank-ranked.ensures.both c.requires.low c.requires.high k.low k.high in
    let fall : (c.args.lo + c.args.hi) / 2 - c.args.lo < t = omega (arith, c.decreases) in
    (fall, (b.2, (c.if-ranked-mid.true, (omega arith, (c.requires.free, (k.l, k.left_shows, down_lacks _ _ _ _ k.l c.rank-ranked.ensures.both k.left_under lack.1))))))

pub insert-right-requires : goal.insert-right-requires
insert-right-requires t c =
    let k = kids c.requires.stands.0 c.in-Some.is c.read-node.ensures c.requires.stands.1 in
    let lack = lacks_kids _ _ _ k.l k.r _ k.is c.requires.stands.2 in
    let b = bounds c.args.lo c.args.hi _ _ _ _ c.rank-ranked.ensures.both c.requires.low c.requires.high k.low k.high in
    let fall : c.args.hi - (c.args.lo + c.args.hi) / 2 < t = omega (arith, c.decreases, c.rank-ranked.ensures.above) in
    (fall, (c.if-ranked-mid.false, (b.3, (c.requires.small, (c.requires.free, (k.r, k.right_shows, down_lacks _ _ _ _ k.r c.rank-ranked.ensures.both k.right_under lack.2))))))

pub returns-in-None : goal.returns-in-None
returns-in-None t c tree s lack =
    subst (λ zs. Inserted c.args.tree c.args.records.now zs tree c.args.fresh c.args.lo c.args.hi c.args.fresh c.args.entry) (sym c.write.ensures)
    (first _ _ tree _ _ _ _ _ c.in-None.is c.requires.free.1.0 c.requires.low c.requires.high s)

pub returns-then-ranked-mid : goal.returns-then-ranked-mid
returns-then-ranked-mid t c tree s lack =
    let k = kids tree c.in-Some.is c.read-node.ensures s in
    insert_left k c.insert-left.new.records c.args.fresh c.args.entry c.rank-ranked.result.up c.rank-ranked.result.down
    c.read-node.ensures c.requires.free c.insert-left.auto.records c.rank-ranked.ensures.above c.rank-ranked.ensures.both c.requires.low c.requires.high lack
    c.insert-left.result c.write-then-ranked-mid.new.records c.write-then-ranked-mid.ensures (c.insert-left.ensures k.l)

pub returns-else-ranked-mid : goal.returns-else-ranked-mid
returns-else-ranked-mid t c tree s lack =
    let k = kids tree c.in-Some.is c.read-node.ensures s in
    insert_right k c.insert-right.new.records c.args.fresh c.args.entry c.rank-ranked.result.up c.rank-ranked.result.down
    c.read-node.ensures c.requires.free c.insert-right.auto.records c.rank-ranked.ensures.above c.rank-ranked.ensures.both c.requires.low c.requires.high lack
    c.insert-right.result c.write-else-ranked-mid.new.records c.write-else-ranked-mid.ensures (c.insert-right.ensures k.r)
