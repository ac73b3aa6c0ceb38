use Rattle.std.proofs.Common.{◌∙◌, ap, subst, sym, arith}
use Rattle.std.specs.List.{position}
use Rattle.stores.specs.Waits.{is_wait, Found}
use Rattle.stores.proofs.Finding.{position_found}
use Rattle.stores.proofs.loose.Loose.find.Goals as goal

pub returns : goal.returns
returns c =
    let s = c.args.self.now.row in
    let w = c.args.wait in
    subst (Found s.records.now s.count w.first w.second) (sym (c.position_of.ensures ∙ ap (position (λ x. is_wait x w.first w.second)) c.used.ensures))
    (position_found s.records.now s.count w.first w.second (omega arith))
