use Rattle.std.proofs.Common.{arith}
use Rattle.fulltree.proofs.Fulls.{sound_of, pair_from, place_from, leaves_few, last_is}
use Rattle.fulltree.proofs.full.FullTreeTable.last.Goals as goal

pub tree-requires : goal.tree-requires
tree-requires c = pair_from _ _ _ _ _ c.in_ok-check_cell.ensures

pub last-requires : goal.last-requires
last-requires c =
    let sound = sound_of c.args.self.now in
    record { tree = c.tree.ensures.tree; value = omega (arith, place_from sound _ _ _ c.in_ok-check_cell.ensures, leaves_few sound) }

pub returns : goal.returns
returns c = last_is (sound_of c.args.self.now) _ _ _ _ _ c.in_ok-check_cell.ensures c.tree.ensures.at c.last.ensures
