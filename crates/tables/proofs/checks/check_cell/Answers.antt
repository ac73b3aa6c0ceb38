use Rattle.std.proofs.Common.{rules}
use Rattle.tables.specs.Answers.{allowed, valued}
use Rattle.tables.proofs.checks.check_cell.Goals as goal

pub returns-in_err-check_pair : goal.returns-in_err-check_pair
unfolding allowed
returns-in_err-check_pair c = search rules

pub returns : goal.returns
unfolding allowed valued
returns c = search rules
