use Rattle.sparse.proofs.Changes.{none_below}
use Rattle.sparse.proofs.sparse.no_roots.Goals as goal

pub returns : goal.returns
returns c g = none_below 256 g
