use Rattle.board.proofs.Puts.{put_earlier_lem}
use Rattle.board.proofs.cells.put_earlier.Goals as goal

pub returns : goal.returns
returns g c =
    let p = put_earlier_lem _ (g.T.Table.lawful c.args.table.now) c.args.s c.args.t c.args.i c.args.j c.requires.cell c.requires.value _ c.in_ok-old.ensures _ c.earlier.ensures _ c.put.ensures.answer _ c.put.ensures.after in
    record { answer = p.answer; after = p.table; refused = c.put.ensures.refused }
