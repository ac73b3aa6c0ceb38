use Rattle.std.proofs.Common.{◌∙◌, min, ap, subst, sym, arith}
use Rattle.std.specs.List.{filter_map, reduce}
use Rattle.stores.specs.Waits.{led_to}
use Rattle.stores.specs.Holding.{Earliest}
use Rattle.stores.specs.Loose.{loose_holding}
use Rattle.stores.proofs.Finding.{least_earliest}
use Rattle.stores.proofs.loose.LooseStore.earliest.Goals as goal

pub returns : goal.returns
returns c =
    let s = c.args.self.now.row in
    subst (Earliest (loose_holding s.records.now s.count) c.args.first c.args.t)
    (sym (c.least_place.ensures ∙ ap (λ l. reduce min (filter_map (λ w. led_to w c.args.first c.args.t) l)) c.used.ensures))
    (least_earliest _ c.args.first c.args.t (omega arith))
