use Rattle.std.proofs.Common.{None}
use Rattle.tables.proofs.Plains.{sound_of, owed, filled_few, write_counted, write_sound, clear_means}
use Rattle.tables.proofs.plain.PlainTable.clear.Goals as goal

pub write-requires : goal.write-requires
write-requires c =
    let sound = sound_of c.args.self.now in
    let ok = c.in_ok-check_cell.ensures in
    record {
      inside = c.place-p.ensures.inside;
      counted = simp c.place-p.ensures.at (write_counted sound c.args.s c.args.t c.args.i ok);
      few = filled_few sound;
    }

pub invariant_of-self : goal.invariant_of-self
invariant_of-self c =
    let h = c.write.ensures in
    let at = c.place-p.ensures.at in
    let ok = c.in_ok-check_cell.ensures in
    simp (h.same.0, h.same.1, h.numbers, at) (owed (write_sound (sound_of c.args.self.now) c.args.s c.args.t c.args.i ok None tt _ (simp at at h.filled)))

pub returns : goal.returns
returns c =
    let h = c.write.ensures in
    let at = c.place-p.ensures.at in
    let ok = c.in_ok-check_cell.ensures in
    record {
      answer = ok;
      after = simp (h.same.0, h.numbers, at) (clear_means (sound_of c.args.self.now) c.args.s c.args.t c.args.i ok);
      refused = tt;
      numbers = simp at at h.numbers;
    }
