use Rattle.std.proofs.Common.{◌≡◌, min, take, refl, ap, ◌∙◌, arith}
use Rattle.std.proofs.lemmas.Bool.{lt-ltb}
use Rattle.words.specs.Refusals.{unless}
use Rattle.stores.specs.Loose.{loose_holding}
use Rattle.stores.proofs.Outcomes.{add_new, add_fits, add_done}
use Rattle.ordered.specs.Ordered.{place_in}
use Rattle.ordered.proofs.Places.{place_within}
use Rattle.ordered.proofs.Changes.{added_rises, added_holding}
use Rattle.ordered.proofs.ordered.OrderedStore.add.Goals as goal

pub invariant_of-self : goal.invariant_of-self
invariant_of-self c =
    let s = c.args.self.now in
    let w = c.args.wait in
    let h = loose_holding s.row.records.now s.row.count in
    let done = c.in_ok-check_add.ensures in
    let fits = add_fits h _ _ done in
    let put = c.insert.ensures.answer ∙ ap (λ b. unless b 7) (lt-ltb _ _ fits) in
    let within = place_within s.row.records.now s.row.count w.first w.second (omega (arith, s.row.few)) in
    let place : min (place_in (take s.row.count s.row.records.now) w.first w.second) s.row.count ≡ place_in (take s.row.count s.row.records.now) w.first w.second = omega (arith, within) in
    simp (c.insert.ensures.count, c.insert.ensures.records, put, c.seek-place.ensures, place)
    (record { rising = added_rises s.row.records.now s.row.count w.first w.second (omega (arith, fits)) s.rising (add_new h _ _ done) })

pub returns : goal.returns
returns c =
    let s = c.args.self.now in
    let w = c.args.wait in
    let h = loose_holding s.row.records.now s.row.count in
    let done = c.in_ok-check_add.ensures in
    let fits = add_fits h _ _ done in
    let put = c.insert.ensures.answer ∙ ap (λ b. unless b 7) (lt-ltb _ _ fits) in
    let within = place_within s.row.records.now s.row.count w.first w.second (omega (arith, s.row.few)) in
    let place : min (place_in (take s.row.count s.row.records.now) w.first w.second) s.row.count ≡ place_in (take s.row.count s.row.records.now) w.first w.second = omega (arith, within) in
    record {
      answer = done;
      after =
          simp (c.insert.ensures.count, c.insert.ensures.records, put, c.seek-place.ensures, place)
          (added_holding s.row.records.now s.row.count w.first w.second (omega (arith, fits)) ∙ add_done h _ _ done);
      refused = tt;
      records = simp (c.insert.ensures.records, put, c.seek-place.ensures, place) refl;
    }
