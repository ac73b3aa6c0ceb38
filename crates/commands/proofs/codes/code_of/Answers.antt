use Rattle.std.proofs.Common.{rules}
use Rattle.commands.proofs.Agreeing.{alike}
use Rattle.commands.proofs.codes.code_of.Goals as goal

pub returns-then-it-from-clause-alike : goal.returns-then-it-from-clause-alike
returns-then-it-from-clause-alike c = alike c.args.aisle.shuttles c.args.aisle.moves c.args.it _ (search rules)

pub returns-then-it-from-2-clause-alike : goal.returns-then-it-from-2-clause-alike
returns-then-it-from-2-clause-alike c = alike c.args.aisle.shuttles c.args.aisle.moves c.args.it _ (search rules)

pub returns-clause-alike : goal.returns-clause-alike
returns-clause-alike c = alike c.args.aisle.shuttles c.args.aisle.moves c.args.it _ (search rules)
