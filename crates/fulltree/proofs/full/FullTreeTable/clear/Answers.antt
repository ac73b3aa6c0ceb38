use Rattle.std.proofs.Common.{None}
use Rattle.fulltree.proofs.Fulls.{sound_of, owed, filled_few, leaves_few, place_from, write_inside, write_counted, write_sound, clear_means}
use Rattle.fulltree.proofs.full.FullTreeTable.clear.Goals as goal

pub write-requires : goal.write-requires
write-requires c =
    let sound = sound_of c.args.self.now in
    let ok = c.in_ok-check_cell.ensures in
    record {
      few = leaves_few sound;
      inside = write_inside sound _ _ _ ok;
      place = place_from sound _ _ _ ok;
      counted = write_counted sound _ _ _ ok;
      room = filled_few sound;
    }

pub invariant_of-self : goal.invariant_of-self
invariant_of-self c =
    let h = c.write.ensures in
    let ok = c.in_ok-check_cell.ensures in
    simp (h.same.0, h.same.1, h.numbers) (owed (write_sound (sound_of c.args.self.now) _ _ _ ok None tt _ h.filled))

pub returns : goal.returns
returns c =
    let h = c.write.ensures in
    let ok = c.in_ok-check_cell.ensures in
    record {
      answer = ok;
      after = simp (h.same.0, h.numbers) (clear_means (sound_of c.args.self.now) _ _ _ ok);
      refused = tt;
      numbers = h.numbers;
    }
