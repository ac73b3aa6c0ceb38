use Rattle.std.proofs.Common.{ap, ◌∙◌, take}
use Rattle.std.specs.List.{slice_get}
use Rattle.ordered.specs.Ordered.{some_wait}
use Rattle.ordered.proofs.Places.{held_place}
use Rattle.ordered.proofs.ordered.Ordered.holds.Goals as goal

pub returns : goal.returns
returns c =
    let s = c.args.self.now in
    let w = c.args.wait in
    c.is_wait.ensures
    ∙ ap (λ o. some_wait o w.first w.second) (c.at.ensures ∙ ap (slice_get (take s.row.count s.row.records.now)) c.requires)
    ∙ held_place _ w.first w.second s.rising
