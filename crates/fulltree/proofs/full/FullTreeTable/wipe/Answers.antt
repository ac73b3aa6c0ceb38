use Rattle.fulltree.proofs.Fulls.{owed, wiped_sound, wiped_means}
use Rattle.fulltree.proofs.full.FullTreeTable.wipe.Goals as goal

pub invariant_of-self : goal.invariant_of-self
invariant_of-self c =
    let t = c.args.self.now in
    let h = c.blank.ensures in
    simp (h.same.0, h.same.1, h.filled, h.numbers) (owed (wiped_sound _ _ _ _ t.lent.cells.now t.lent.small t.wide t.lent.within t.some t.whole))

pub returns : goal.returns
returns c =
    let t = c.args.self.now in
    let h = c.blank.ensures in
    record {
      after = simp (h.same.0, h.numbers) (wiped_means _ _ _ _ t.lent.cells.now t.lent.small t.wide t.lent.within t.some t.whole);
      used = h.same.1;
      numbers = h.numbers;
    }
