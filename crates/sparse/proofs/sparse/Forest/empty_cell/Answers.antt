use Rattle.std.proofs.Common.{refl, arith}
use Rattle.sparse.proofs.Changes.{entry_held, shrunk_good, shrunk_cells}
use Rattle.sparse.proofs.Sparses.{good_of, owed}
use Rattle.sparse.proofs.sparse.Forest.empty_cell.Goals as goal

pub remove-rest-requires : goal.remove-rest-requires
remove-rest-requires c =
    let k = (good_of c.args.self.now).tree c.args.tree c.requires.inside in
    record {
      small = c.args.self.now.small.3;
      stands = (k.0, k.1, (record { place = c.args.place; value = c.requires.held.0 }, entry_held _ _ _ _ c.args.self.now.roots _ k.0 k.1 c.requires.held.1, refl));
    }

pub invariant_of-self : goal.invariant_of-self
invariant_of-self c =
    let s = c.args.self.now in
    let good = good_of s in
    let k = good.tree c.args.tree c.requires.inside in
    let cut = c.remove-rest.ensures k.0 k.1 in
    owed {k = s.aisle.shuttles} s.small (omega (arith, s.few, c.remove-rest.auto.records))
    (shrunk_good good c.args.tree c.requires.inside (omega arith) c.remove-rest.new.records c.remove-rest.auto.records _ c.args.place _ c.requires.some cut)

pub returns : goal.returns
returns c =
    let s = c.args.self.now in
    let good = good_of s in
    let k = good.tree c.args.tree c.requires.inside in
    let cut = c.remove-rest.ensures k.0 k.1 in
    record {
      same = (refl, c.remove-rest.auto.records);
      filled = omega (arith, c.requires.some);
      cells = shrunk_cells good c.args.tree c.requires.inside (omega arith) c.remove-rest.new.records c.remove-rest.auto.records _ c.args.place _ c.requires.some cut;
    }
