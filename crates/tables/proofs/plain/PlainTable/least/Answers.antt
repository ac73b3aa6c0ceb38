use Rattle.std.proofs.Common.{ℕ, ◌-◌, min, Ok, Option, Result, length, drop, take_all, ap, sym, ◌∙◌, arith}
use Rattle.std.specs.List.{filter_map, reduce}
use Rattle.std.proofs.lemmas.List.{length-drop}
use Rattle.words.specs.declared.Refusal.{Refusal}
use Rattle.tables.specs.Checked.{inside_from}
use Rattle.tables.specs.Plain.{decoded, plain_cell}
use Rattle.tables.proofs.Allowed.{allowed_at}
use Rattle.tables.proofs.Extremes.{least_of_row}
use Rattle.tables.proofs.plain.PlainTable.least.Goals as goal

pub row-requires : goal.row-requires
row-requires c = sym (allowed_at _ _ _ _ _ _ (sym c.in_ok-check_cell.ensures) (omega arith))

pub slice_bounds-least_of-count : goal.slice_bounds-least_of-count
slice_bounds-least_of-count c = let h = inside_from _ _ _ _ _ (sym c.in_ok-check_cell.ensures) in omega (arith, h.place_below, c.row.ensures.size)

pub slice_bounds-least_of-start : goal.slice_bounds-least_of-start
slice_bounds-least_of-start c = let h = inside_from _ _ _ _ _ (sym c.in_ok-check_cell.ensures) in omega (arith, h.place_below, c.row.ensures.size)

pub returns : goal.returns
returns c =
    let t = c.args.self.now in
    let a = t.lent.aisle in
    let ok = c.in_ok-check_cell.ensures in
    let h = c.row.ensures in
    let row = c.row.result.now in
    let whole = take_all (length row - c.args.i) (drop c.args.i row) (omega (arith, length-drop c.args.i row)) in
    rw (← ok) (ap {B = Result (Option ℕ) Refusal} Ok
    (c.least_of.ensures
    ∙ ap (λ l. reduce min (filter_map decoded l)) whole
    ∙ least_of_row row (plain_cell a.shuttles a.moves t.lent.cells.now c.args.s c.args.t) c.args.i a.moves h.size h.cells))
