use Rattle.std.proofs.Common.{sym, ap, ◌∙◌, arith}
use Rattle.tables.specs.Meaning.{last_of}
use Rattle.sparse.proofs.Changes.{last_held, held_is}
use Rattle.sparse.proofs.Sparses.{good_of}
use Rattle.sparse.proofs.sparse.Forest.last.Goals as goal

pub last-requires : goal.last-requires
last-requires c =
    let k = (good_of c.args.self.now).tree c.args.tree c.requires.inside in
    record { low = omega arith; small = c.args.self.now.small.3; stands = (c.args.tree, k.0, k.1) }

pub returns : goal.returns
returns c =
    let k = (good_of c.args.self.now).tree c.args.tree c.requires.inside in
    last_held _ k.0 c.args.j _ k.1.fits (c.last.ensures _ k.0 k.1) ∙ sym (ap (λ f. last_of f c.args.j c.args.self.now.aisle.moves) (held_is _ _ _ _ k.0 k.1))
