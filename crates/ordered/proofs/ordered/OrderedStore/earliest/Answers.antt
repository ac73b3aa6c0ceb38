use Rattle.std.proofs.Common.{take, ap, ◌∙◌, sym, subst, arith}
use Rattle.std.specs.List.{slice_get}
use Rattle.stores.specs.Holding.{Earliest}
use Rattle.stores.specs.Loose.{loose_holding}
use Rattle.ordered.specs.Ordered.{led_by}
use Rattle.ordered.proofs.Looks.{earliest_at}
use Rattle.ordered.proofs.ordered.OrderedStore.earliest.Goals as goal

pub returns : goal.returns
returns c =
    let s = c.args.self.now in
    let u = c.args.first in
    let t = c.args.t in
    subst (Earliest (loose_holding s.row.records.now s.row.count) u t)
    (sym (c.led_by.ensures ∙ ap (λ o. led_by o u t) (c.at.ensures ∙ ap (slice_get (take s.row.count s.row.records.now)) c.seek-place.ensures)))
    (earliest_at (take s.row.count s.row.records.now) u t (omega arith) s.rising)
