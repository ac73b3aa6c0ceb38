use Rattle.std.proofs.Common.{refl, arith}
use Rattle.sparse.proofs.Changes.{head_free, head_none, lacks_held, grown_good, grown_cells}
use Rattle.sparse.proofs.Sparses.{good_of, owed}
use Rattle.sparse.proofs.sparse.Forest.fill.Goals as goal

pub unreachable-requires : goal.unreachable-requires
unreachable-requires c = omega (arith, c.requires.room, head_none _ _ _ (good_of c.args.self.now).spare c.in-None.is)

pub next-next-requires : goal.next-next-requires
next-next-requires c = head_free _ _ _ _ (good_of c.args.self.now).spare c.in-Some.is

pub insert-root-requires : goal.insert-root-requires
insert-root-requires c =
    let k = (good_of c.args.self.now).tree c.args.tree c.requires.inside in
    record {
      low = omega arith;
      high = c.requires.place;
      small = c.args.self.now.small.3;
      free = head_free _ _ _ _ (good_of c.args.self.now).spare c.in-Some.is;
      stands = (k.0, k.1, lacks_held _ _ _ c.args.self.now.roots _ k.0 k.1 c.requires.empty);
    }

pub invariant_of-self : goal.invariant_of-self
invariant_of-self c =
    let s = c.args.self.now in
    let good = good_of s in
    let k = good.tree c.args.tree c.requires.inside in
    let lack = lacks_held _ _ _ s.roots _ k.0 k.1 c.requires.empty in
    let ins = c.insert-root.ensures k.0 k.1 lack in
    owed {k = s.aisle.shuttles} s.small (omega (arith, s.few, c.insert-root.auto.records))
    (grown_good good c.args.tree c.requires.inside (omega (arith, s.few)) c.insert-root.new.records c.insert-root.auto.records _ _ _ c.args.new c.requires.value c.in-Some.is c.next-next.ensures lack ins)

pub returns : goal.returns
returns c =
    let s = c.args.self.now in
    let good = good_of s in
    let k = good.tree c.args.tree c.requires.inside in
    let lack = lacks_held _ _ _ s.roots _ k.0 k.1 c.requires.empty in
    let ins = c.insert-root.ensures k.0 k.1 lack in
    record {
      same = (refl, c.insert-root.auto.records);
      filled = refl;
      cells = grown_cells good c.args.tree c.requires.inside (omega (arith, s.few)) c.insert-root.new.records c.insert-root.auto.records _ _ _ c.args.new c.requires.value c.in-Some.is c.next-next.ensures lack ins;
    }
