use Rattle.std.proofs.Common.{sym, ap, ◌∙◌, arith}
use Rattle.tables.specs.Meaning.{least_of}
use Rattle.sparse.proofs.Changes.{least_held, held_is}
use Rattle.sparse.proofs.Sparses.{good_of}
use Rattle.sparse.proofs.sparse.Forest.least.Goals as goal

pub least-requires : goal.least-requires
least-requires c =
    let k = (good_of c.args.self.now).tree c.args.tree c.requires.inside in
    record { low = omega arith; small = c.args.self.now.small.3; stands = (c.args.tree, k.0, k.1) }

pub returns : goal.returns
returns c =
    let k = (good_of c.args.self.now).tree c.args.tree c.requires.inside in
    least_held _ k.0 c.args.i _ k.1.fits (c.least.ensures _ k.0 k.1) ∙ sym (ap (λ f. least_of f c.args.i c.args.self.now.aisle.moves) (held_is _ _ _ _ k.0 k.1))
