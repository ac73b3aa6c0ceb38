use Rattle.std.proofs.Common.{Some, sym}
use Rattle.tables.proofs.Allowed.{value_from}
use Rattle.tables.proofs.Plains.{sound_of, owed, filled_few, write_counted, write_sound, put_done, put_means}
use Rattle.tables.proofs.plain.PlainTable.put.Goals as goal

pub write-requires : goal.write-requires
write-requires c =
    let sound = sound_of c.args.self.now in
    let ok = c.in_ok-check_cell.ensures in
    record {
      inside = c.place-p.ensures.inside;
      counted = simp c.place-p.ensures.at (write_counted sound c.args.s c.args.t c.args.i ok);
      few = filled_few sound;
    }

pub invariant_of-self : goal.invariant_of-self
invariant_of-self c =
    let h = c.write.ensures in
    let at = c.place-p.ensures.at in
    let ok = c.in_ok-check_cell.ensures in
    let fits = c.in_ok-check_value.ensures in
    simp (h.same.0, h.same.1, h.numbers, at) (owed (write_sound (sound_of c.args.self.now) c.args.s c.args.t c.args.i ok (Some c.args.j) (value_from _ _ (sym fits)) _ (simp at at h.filled)))

pub returns : goal.returns
returns c =
    let sound = sound_of c.args.self.now in
    let h = c.write.ensures in
    let at = c.place-p.ensures.at in
    let ok = c.in_ok-check_cell.ensures in
    let fits = c.in_ok-check_value.ensures in
    record {
      answer = put_done sound c.args.s c.args.t c.args.i ok c.args.j fits;
      after = simp (h.same.0, h.numbers, at) (put_means sound c.args.s c.args.t c.args.i ok c.args.j fits);
      refused = tt;
      numbers = simp at at h.numbers;
    }
