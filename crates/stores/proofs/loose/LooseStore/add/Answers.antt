use Rattle.std.proofs.Common.{ap, ◌∙◌, arith}
use Rattle.std.proofs.lemmas.Bool.{lt-ltb}
use Rattle.words.specs.Refusals.{unless}
use Rattle.stores.specs.Loose.{loose_holding}
use Rattle.stores.proofs.Outcomes.{add_new, add_fits, add_done}
use Rattle.stores.proofs.Records.{added_single, added_holding}
use Rattle.stores.proofs.loose.LooseStore.add.Goals as goal

pub invariant_of-self : goal.invariant_of-self
invariant_of-self c =
    let s = c.args.self.now in
    let h = loose_holding s.row.records.now s.row.count in
    let done = c.in_ok-check_add.ensures in
    let fits = add_fits h _ _ done in
    let pushed = c.push.ensures.answer ∙ ap (λ b. unless b 7) (lt-ltb _ _ fits) in
    simp (c.push.ensures.count, c.push.ensures.records, pushed)
    (record { once = added_single s.row.records.now s.row.count c.args.wait.first c.args.wait.second (omega (arith, fits)) s.once (add_new h _ _ done) })

pub returns-clause-after : goal.returns-clause-after
returns-clause-after c =
    let s = c.args.self.now.row in
    let h = loose_holding s.records.now s.count in
    let done = c.in_ok-check_add.ensures in
    let fits = add_fits h _ _ done in
    let pushed = c.push.ensures.answer ∙ ap (λ b. unless b 7) (lt-ltb _ _ fits) in
    simp (c.push.ensures.count, c.push.ensures.records, pushed)
    (added_holding s.records.now s.count c.args.wait.first c.args.wait.second (omega (arith, fits)) ∙ add_done h _ _ done)
