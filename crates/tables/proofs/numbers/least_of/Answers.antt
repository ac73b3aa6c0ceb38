use Rattle.std.proofs.Common.{ap, ◌∙◌, arith}
use Rattle.tables.specs.Plain.{decoded}
use Rattle.tables.proofs.Extremes.{lowest_is}
use Rattle.tables.proofs.numbers.least_of.Goals as goal

pub returns : goal.returns
returns c = c.decode.ensures ∙ ap decoded c.lowest.ensures ∙ lowest_is c.args.numbers.now (λ i l. let fits = c.type_inv.numbers i in omega arith)
