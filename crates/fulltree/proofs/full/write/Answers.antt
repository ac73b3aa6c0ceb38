use Rattle.std.proofs.Common.{refl, ap, ◌∙◌, arith}
use Rattle.tables.specs.Meaning.{one}
use Rattle.fulltree.proofs.Stretches.{leaf_number, stored_back}
use Rattle.fulltree.proofs.full.write.Goals as goal

pub overflow_sub-lent : goal.overflow_sub-lent
overflow_sub-lent c =
    let was = c.count_of-2.ensures ∙ ap one (c.decode-was.ensures ∙ leaf_number _ _ _ _ _ _ c.start_of-a.ensures.at c.leaf_at.ensures c.requires.place) in
    omega (arith, c.requires.counted)

pub returns : goal.returns
returns c =
    let lent = c.args.lent.now in
    let was = c.count_of-2.ensures ∙ ap one (c.decode-was.ensures ∙ leaf_number _ _ _ _ _ _ c.start_of-a.ensures.at c.leaf_at.ensures c.requires.place) in
    record {
      same = (refl, refl);
      filled = omega (arith, c.requires.counted, c.count_of.ensures);
      numbers = stored_back lent.aisle.shuttles c.args.leaves lent.cells.now c.args.s c.args.t c.args.i _ _ _ _ c.start_of-a.ensures.at c.encode.ensures c.store.ensures;
    }
