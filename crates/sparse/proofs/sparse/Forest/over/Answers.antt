use Rattle.std.proofs.Common.{sym}
use Rattle.tables.proofs.Allowed.{sizable_small}
use Rattle.sparse.proofs.sparse.Forest.over.Goals as goal

pub empty-requires-in-Ok-clause-small : goal.empty-requires-in-Ok-clause-small
empty-requires-in-Ok-clause-small c = sizable_small c.args.aisle.shuttles c.args.aisle.moves (sym c.in-Ok.ensures)
