use Rattle.std.proofs.Common.{refl}
use Rattle.fulltree.proofs.Stretches.{lent_is}
use Rattle.fulltree.proofs.full.row.Goals as goal

pub returns : goal.returns
returns c = lent_is _ _ _ _ _ c.start_of-a.ensures.at refl
