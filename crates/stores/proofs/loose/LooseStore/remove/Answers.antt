use Rattle.std.proofs.Common.{ap, ◌-◌, ◌∙◌, subst, arith}
use Rattle.std.proofs.lemmas.Bool.{lt-ltb}
use Rattle.words.specs.Refusals.{unless}
use Rattle.stores.specs.Waits.{wait_of, Found}
use Rattle.stores.specs.Loose.{loose_holding}
use Rattle.stores.proofs.Outcomes.{remove_done}
use Rattle.stores.proofs.Records.{removed_single, removed_holding}
use Rattle.stores.proofs.loose.LooseStore.remove.Goals as goal

pub invariant_of-self : goal.invariant_of-self
invariant_of-self c =
    let s = c.args.self.now in
    let found = subst (Found s.row.records.now s.row.count c.args.wait.first c.args.wait.second) c.in_ok-place.ensures.ok_part c.find.ensures in
    let pulled = c.swap_remove.ensures.answer ∙ ap (λ b. unless b 5) (lt-ltb _ _ found.1) in
    simp (c.swap_remove.ensures.count, c.swap_remove.ensures.records, pulled) (record {
      once = removed_single s.row.records.now (wait_of 0 0) s.row.count (s.row.count - 1) _ (omega (arith, found.1)) (omega (arith, s.row.few)) found.1 s.once;
    })

pub returns-clause-after : goal.returns-clause-after
returns-clause-after c =
    let s = c.args.self.now in
    let h = loose_holding s.row.records.now s.row.count in
    let found = subst (Found s.row.records.now s.row.count c.args.wait.first c.args.wait.second) c.in_ok-place.ensures.ok_part c.find.ensures in
    let pulled = c.swap_remove.ensures.answer ∙ ap (λ b. unless b 5) (lt-ltb _ _ found.1) in
    simp (c.swap_remove.ensures.count, c.swap_remove.ensures.records, pulled)
    (removed_holding s.row.records.now (wait_of 0 0) s.row.count (s.row.count - 1) _ (omega (arith, found.1)) (omega (arith, s.row.few)) found.1 s.once _ _ found.2
    ∙ remove_done h _ _ found.0)
