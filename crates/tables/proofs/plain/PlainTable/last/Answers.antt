use Rattle.std.proofs.Common.{ℕ, Ok, Option, Result, ap, sym, ◌∙◌, rules, arith}
use Rattle.words.specs.declared.Refusal.{Refusal}
use Rattle.tables.specs.Plain.{plain_cell}
use Rattle.tables.proofs.Allowed.{allowed_at}
use Rattle.tables.proofs.Extremes.{last_of_row}
use Rattle.tables.proofs.plain.PlainTable.last.Goals as goal

pub row-requires : goal.row-requires
row-requires c = sym (allowed_at _ _ _ _ _ _ (sym c.in_ok-check_cell.ensures) (omega arith))

pub returns : goal.returns
returns c =
    let t = c.args.self.now in
    let a = t.lent.aisle in
    let ok = c.in_ok-check_cell.ensures in
    let h = c.row.ensures in
    rw (← ok) (ap {B = Result (Option ℕ) Refusal} Ok
    ((search rules) ∙ last_of_row c.row.result.now (plain_cell a.shuttles a.moves t.lent.cells.now c.args.s c.args.t) c.args.j a.moves c.last_of.result h.size h.cells c.last_of.ensures))
