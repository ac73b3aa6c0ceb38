use Rattle.fulltree.proofs.Fulls.{sound_of, leaves_few, pair_inside, tree_of}
use Rattle.fulltree.proofs.full.FullTree.tree.Goals as goal

pub row-requires : goal.row-requires
row-requires c =
    let sound = sound_of c.args.self.now in
    record { few = leaves_few sound; inside = pair_inside sound c.args.s c.args.t c.requires }

pub returns : goal.returns
returns c =
    let sound = sound_of c.args.self.now in
    record { at = c.row.ensures; tree = tree_of sound c.args.s c.args.t c.requires _ c.row.ensures }
