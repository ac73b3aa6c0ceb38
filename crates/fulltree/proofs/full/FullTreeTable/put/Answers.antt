use Rattle.std.proofs.Common.{Some, sym}
use Rattle.tables.proofs.Allowed.{value_from}
use Rattle.fulltree.proofs.Fulls.{sound_of, owed, filled_few, leaves_few, place_from, write_inside, write_counted, write_sound, put_done, put_means}
use Rattle.fulltree.proofs.full.FullTreeTable.put.Goals as goal

pub write-requires : goal.write-requires
write-requires c =
    let sound = sound_of c.args.self.now in
    let ok = c.in_ok-check_cell.ensures in
    record {
      few = leaves_few sound;
      inside = write_inside sound _ _ _ ok;
      place = place_from sound _ _ _ ok;
      counted = write_counted sound _ _ _ ok;
      room = filled_few sound;
    }

pub invariant_of-self : goal.invariant_of-self
invariant_of-self c =
    let h = c.write.ensures in
    let ok = c.in_ok-check_cell.ensures in
    let fits = c.in_ok-check_value.ensures in
    simp (h.same.0, h.same.1, h.numbers) (owed (write_sound (sound_of c.args.self.now) _ _ _ ok (Some c.args.j) (value_from _ _ (sym fits)) _ h.filled))

pub returns : goal.returns
returns c =
    let sound = sound_of c.args.self.now in
    let h = c.write.ensures in
    let ok = c.in_ok-check_cell.ensures in
    let fits = c.in_ok-check_value.ensures in
    record {
      answer = put_done sound _ _ _ ok c.args.j fits;
      after = simp (h.same.0, h.numbers) (put_means sound _ _ _ ok c.args.j fits);
      refused = tt;
      numbers = h.numbers;
    }
