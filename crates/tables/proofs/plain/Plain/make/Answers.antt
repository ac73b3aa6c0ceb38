use Rattle.std.proofs.Common.{refl}
use Rattle.tables.specs.Plain.{plain_check}
use Rattle.tables.proofs.Plains.{owed, made_sound, made_means}
use Rattle.tables.proofs.plain.Plain.make.Goals as goal

pub invariant_of-result : goal.invariant_of-result
unfolding plain_check
invariant_of-result c =
    let h = c.over.ensures in
    simp (h.shuttles, h.moves, h.used, h.filled, h.numbers, c.numbers_of.ensures) (owed (made_sound _ _ c.args.cells.now _ refl))

pub returns : goal.returns
unfolding plain_check
returns c =
    let h = c.over.ensures in
    let a = c.args.aisle in
    record {
      means = simp (h.shuttles, h.moves, h.numbers, c.numbers_of.ensures) (made_means a.shuttles a.moves c.args.cells.now _ refl);
      used = simp c.numbers_of.ensures at h.used;
      numbers = simp c.numbers_of.ensures at h.numbers;
    }
