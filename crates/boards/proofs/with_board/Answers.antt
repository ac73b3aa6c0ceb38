use Rattle.std.proofs.Common.{IfOk, subst, arith}
use Rattle.board.specs.Standing.{Limits}
use Rattle.boards.proofs.Designs.{plain_limits, full_limits}
use Rattle.boards.proofs.with_board.Goals as goal

pub returns-in_ok-numbers-in-Plain : goal.returns-in_ok-numbers-in-Plain
returns-in_ok-numbers-in-Plain g c =
    let e = plain_limits c.args.design _ _ c.in-Plain.is (omega (arith, simp c.numbers_of.ensures at c.room_for.ensures, c.in_ok-numbers-in-Plain.ensures.len, c.as_mut_slice.ensures.len)) c.make-table.ensures.means in
    subst (λ (b : Limits). IfOk c.on_table.result (λ outcome. g.U.Use.gives c.args.user b outcome)) e c.on_table.ensures

pub returns-in_ok-numbers-in-Full : goal.returns-in_ok-numbers-in-Full
returns-in_ok-numbers-in-Full g c =
    let e = full_limits c.args.design _ _ c.in-Full.is (omega (arith, simp c.numbers_of-in-Full.ensures at c.room_for-in-Full.ensures, c.in_ok-numbers-in-Full.ensures.len, c.as_mut_slice-in-Full.ensures.len)) c.make-table-in-Full.ensures.means in
    subst (λ (b : Limits). IfOk c.on_table-in-Full.result (λ outcome. g.U.Use.gives c.args.user b outcome)) e c.on_table-in-Full.ensures
