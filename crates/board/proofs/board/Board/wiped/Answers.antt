use Rattle.board.proofs.Keeps.{empty_stands}
use Rattle.board.proofs.board.Board.wiped.Goals as goal

pub returns : goal.returns
returns g c =
    empty_stands (g.T.Table.meaning c.args.table) (g.S.Store.holding c.args.store) (g.T.Table.lawful c.args.table) _ _ c.wipe.ensures c.wipe-2.ensures
