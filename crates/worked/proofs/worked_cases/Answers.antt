use Rattle.std.proofs.Common.{arith}
use Rattle.worked.proofs.Standing.{cases_stand}
use Rattle.worked.proofs.Cases.{worked}
use Rattle.worked.proofs.worked_cases.Goals as goal

pub returns : goal.returns
returns c = record { counted = omega arith; stand = cases_stand; hold = worked }
