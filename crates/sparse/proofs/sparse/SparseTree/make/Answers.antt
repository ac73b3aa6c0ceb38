use Rattle.std.proofs.Common.{length, arith}
use Rattle.sparse.proofs.Sparses.{good_of, empty_sound, empty_means, small_like, made_small, used_few}
use Rattle.sparse.proofs.sparse.SparseTree.make.Goals as goal

pub invariant_of-result : goal.invariant_of-result
invariant_of-result c =
    let h = c.over.ensures in
    let a = c.args.aisle in
    record { counted = (empty_sound _ _ _ _ _ h.none _ h.filled (small_like h.shuttles h.moves (made_small a.shuttles a.moves)) (omega (arith, h.used, used_few a.shuttles a.moves (length c.args.records.now))) (good_of c.over.result)).counted }

pub returns : goal.returns
returns c = let h = c.over.ensures in record { means = empty_means _ _ c.over.result.head _ _ h.none _ _ _ h.shuttles h.moves h.used }
