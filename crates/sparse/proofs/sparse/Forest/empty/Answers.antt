use Rattle.std.proofs.Common.{refl, arith}
use Rattle.sparse.proofs.Changes.{empty_good, empty_cells}
use Rattle.sparse.proofs.Sparses.{owed}
use Rattle.sparse.proofs.sparse.Forest.empty.Goals as goal

pub invariant_of-result : goal.invariant_of-result
invariant_of-result c =
    owed {k = c.args.aisle.shuttles} c.requires.small (omega (arith, c.requires.few, c.release-head.auto.records)) (empty_good _ _ _ _ c.no_roots-roots.ensures c.release-head.ensures)

pub returns : goal.returns
returns c = record {
  sized = (refl, c.release-head.auto.records, refl);
  none = empty_cells _ _ _ c.no_roots-roots.ensures;
}
