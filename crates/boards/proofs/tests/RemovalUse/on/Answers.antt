use Rattle.std.proofs.Common.{[]}
use Rattle.boards.proofs.tests.RemovalUse.on.Goals as goal

pub returns : goal.returns
returns g c = λ b s. (c.remove.ensures.keeps.at b [] s).0
