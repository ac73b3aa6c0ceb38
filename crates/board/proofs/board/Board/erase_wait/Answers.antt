use Rattle.board.proofs.board.Board.erase_wait.Goals as goal

pub returns-clause-few : goal.returns-clause-few
returns-clause-few g c = (g.T.Table.lawful c.args.self.now.table).shuttles_few
