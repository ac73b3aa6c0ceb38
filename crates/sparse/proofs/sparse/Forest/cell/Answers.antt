use Rattle.std.proofs.Common.{sym, ap, ◌∙◌, arith}
use Rattle.sparse.proofs.Changes.{value_is, held_is}
use Rattle.sparse.proofs.Sparses.{good_of}
use Rattle.sparse.proofs.sparse.Forest.cell.Goals as goal

pub find-requires : goal.find-requires
find-requires c =
    let k = (good_of c.args.self.now).tree c.args.tree c.requires.inside in
    record { low = omega arith; small = c.args.self.now.small.3; stands = (c.args.tree, k.0, k.1) }

pub returns : goal.returns
returns c =
    let k = (good_of c.args.self.now).tree c.args.tree c.requires.inside in
    value_is _ _ k.0 c.args.place _ k.1.fits (c.find.ensures _ k.0 k.1) ∙ sym (ap (λ f. f c.args.place) (held_is _ _ _ _ k.0 k.1))
