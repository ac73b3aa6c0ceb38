use Rattle.std.proofs.Common.{◌≤◌, ltb, length, sym, ap, ◌∙◌, arith}
use Rattle.std.proofs.lemmas.Bool.{lt-ltb}
use Rattle.words.specs.Refusals.{unless, if_done}
use Rattle.words.proofs.Checks.{left_alone_done}
use Rattle.stores.specs.Loose.{loose_holding}
use Rattle.stores.specs.Rows.{taken_out}
use Rattle.stores.proofs.Outcomes.{remove_passed, remove_done}
use Rattle.ordered.proofs.Places.{held_below, held_there}
use Rattle.ordered.proofs.Changes.{removed_rises, removed_holding}
use Rattle.ordered.proofs.ordered.OrderedStore.remove.Goals as goal

pub invariant_of-self : goal.invariant_of-self
invariant_of-self c =
    let s = c.args.self.now in
    let w = c.args.wait in
    let few : s.row.count ≤ length s.row.records.now = omega (arith, s.row.few) in
    let below = held_below s.row.records.now s.row.count w.first w.second few s.rising c.if-not-holds.ensures in
    let taken = c.remove.ensures.answer ∙ ap (λ p. unless (ltb p s.row.count) 5) c.seek-place.ensures ∙ ap (λ b. unless b 5) (lt-ltb _ _ below) in
    simp (c.remove.ensures.count, c.remove.ensures.records, taken, c.seek-place.ensures)
    (record { rising = removed_rises s.row.records.now s.row.count _ below few s.rising })

pub returns : goal.returns
returns c =
    let s = c.args.self.now in
    let w = c.args.wait in
    let h = loose_holding s.row.records.now s.row.count in
    let few : s.row.count ≤ length s.row.records.now = omega (arith, s.row.few) in
    let held = c.if-not-holds.ensures in
    let below = held_below s.row.records.now s.row.count w.first w.second few s.rising held in
    let there = held_there s.row.records.now s.row.count w.first w.second few s.rising held in
    let taken = c.remove.ensures.answer ∙ ap (λ p. unless (ltb p s.row.count) 5) c.seek-place.ensures ∙ ap (λ b. unless b 5) (lt-ltb _ _ below) in
    let passes = remove_passed h w.first w.second (sym held) in
    record {
      answer = taken ∙ passes;
      after =
          simp (c.remove.ensures.count, c.remove.ensures.records, taken, c.seek-place.ensures)
          (removed_holding s.row.records.now s.row.count _ below few s.rising _ _ there ∙ remove_done h _ _ (sym held));
      refused = left_alone_done c.remove.result _ _ (sym taken);
      records = c.remove.ensures.records ∙ ap (λ p. if_done c.remove.result s.row.records.now (taken_out s.row.records.now s.row.count p)) c.seek-place.ensures;
    }
