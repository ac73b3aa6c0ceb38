use Rattle.std.proofs.Common.{◌≡◌, ◌+◌, ◌-◌, ap, sym, ◌∙◌, drop, get_or, arith}
use Rattle.std.proofs.lemmas.List.{get_or-take, get_or-drop}
use Rattle.tables.specs.Plain.{place, decoded}
use Rattle.tables.proofs.Allowed.{allowed_at}
use Rattle.tables.proofs.Plains.{sound_of, place_inside, plain_cell_at}
use Rattle.tables.proofs.plain.Plain.row.Goals as goal

pub slice_bounds-result-end : goal.slice_bounds-result-end
slice_bounds-result-end c =
    let t = c.args.self.now in
    let small = t.lent.small in
    let end = place_inside (sound_of t) c.args.s c.args.t (t.lent.aisle.moves - 1) (sym (allowed_at _ _ _ _ _ _ (sym c.requires) (omega arith))) in
    omega (arith, end, c.place-start.ensures.at)

pub returns-clause-cells : goal.returns-clause-cells
returns-clause-cells c i less =
    let t = c.args.self.now in
    let a = t.lent.aisle in
    let cells = t.lent.cells.now in
    let start = c.place-start.result in
    let there : start + i ≡ place a.shuttles a.moves c.args.s c.args.t i = omega (arith, c.place-start.ensures.at) in
    ap decoded (get_or-take (start + a.moves - start) (drop start cells) i 0 (omega arith) ∙ get_or-drop start cells i 0 ∙ ap (λ p. get_or cells p 0) there)
    ∙ sym (plain_cell_at a.shuttles a.moves cells c.args.s c.args.t i (allowed_at _ _ _ _ _ _ (sym c.requires) less))
