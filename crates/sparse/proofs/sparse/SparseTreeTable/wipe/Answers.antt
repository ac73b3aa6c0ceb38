use Rattle.std.proofs.Common.{ap, arith}
use Rattle.sparse.proofs.Sparses.{sound_of, good_of, empty_sound, empty_means, small_like}
use Rattle.sparse.proofs.sparse.SparseTreeTable.wipe.Goals as goal

pub invariant_of-self : goal.invariant_of-self
invariant_of-self c =
    let sound = sound_of c.args.self.now in
    let h = c.blank.ensures in
    let small = small_like (ap (λ a. a.shuttles) h.same.0) (ap (λ a. a.moves) h.same.0) sound.small in
    record { counted = (empty_sound _ _ _ _ _ h.none _ h.same.2 small (omega (arith, h.same.1, sound.few)) (good_of c.blank.new.self)).counted }

pub returns : goal.returns
returns c =
    let h = c.blank.ensures in
    empty_means _ _ c.blank.new.self.head _ _ h.none _ _ _ (ap (λ a. a.shuttles) h.same.0) (ap (λ a. a.moves) h.same.0) h.same.1
