use Rattle.std.proofs.Common.{refl, arith}
use Rattle.sparse.proofs.Changes.{empty_good, empty_cells}
use Rattle.sparse.proofs.Sparses.{owed}
use Rattle.sparse.proofs.sparse.Forest.blank.Goals as goal

pub invariant_of-self : goal.invariant_of-self
invariant_of-self c =
    let s = c.args.self.now in
    owed {k = s.aisle.shuttles} s.small (omega (arith, s.few, c.release-self.auto.records)) (empty_good _ _ _ _ c.no_roots-self.ensures c.release-self.ensures)

pub returns : goal.returns
returns c = record {
  same = (refl, c.release-self.auto.records, refl);
  none = empty_cells _ _ _ c.no_roots-self.ensures;
}
