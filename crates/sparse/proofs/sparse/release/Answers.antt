use Rattle.std.proofs.Common.{arith}
use Rattle.sparse.proofs.Chains.{chain_push}
use Rattle.sparse.proofs.sparse.release.Goals as goal

pub loop-i-preserved : goal.loop-i-preserved
loop-i-preserved c = chain_push c.loop-i.records c.loop-i.head c.loop-i.i (omega arith) c.loop-i.invariant
