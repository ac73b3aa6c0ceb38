use Rattle.std.proofs.Common.{sym, leb}
use Rattle.std.proofs.lemmas.Bool.{leb-true}
use Rattle.words.proofs.Checks.{then_first, then_second, unless_passed}
use Rattle.tables.specs.Answers.{sizable}
use Rattle.tables.proofs.Allowed.{sizable_small}
use Rattle.tables.proofs.lent.taken.Goals as goal

pub returns-in-Ok-clause-small : goal.returns-in-Ok-clause-small
returns-in-Ok-clause-small c =
    let a = c.args.aisle in
    sizable_small a.shuttles a.moves (sym (then_first (sizable a.shuttles a.moves) _ tt c.in-Ok.ensures))

pub returns-in-Ok-clause-within : goal.returns-in-Ok-clause-within
returns-in-Ok-clause-within c =
    let a = c.args.aisle in
    leb-true c.args.needed c.args.given (unless_passed (leb c.args.needed c.args.given) 9 (then_second (sizable a.shuttles a.moves) _ tt c.in-Ok.ensures))
