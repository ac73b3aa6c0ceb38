use Rattle.std.proofs.Common.{Ok, Option, Result, ap, ◌∙◌, sym, ℕ, get_or}
use Rattle.words.specs.declared.Refusal.{Refusal}
use Rattle.tables.specs.Plain.{decoded}
use Rattle.tables.proofs.Plains.{plain_cell_at}
use Rattle.tables.proofs.plain.PlainTable.cell.Goals as goal

pub returns : goal.returns
returns c =
    let t = c.args.self.now in
    let ok = c.in_ok-check_cell.ensures in
    let a = t.lent.aisle in
    let at = plain_cell_at a.shuttles a.moves t.lent.cells.now c.args.s c.args.t c.args.i (sym ok) in
    rw (← ok) (ap {B = Result (Option ℕ) Refusal} Ok (c.decode.ensures ∙ ap (λ p. decoded (get_or t.lent.cells.now p 0)) c.place.ensures.at ∙ sym at))
