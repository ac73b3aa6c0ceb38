use Rattle.fulltree.proofs.Fulls.{sound_of, pair_from, place_from, cell_is}
use Rattle.fulltree.proofs.full.FullTreeTable.cell.Goals as goal

pub tree-requires : goal.tree-requires
tree-requires c = pair_from _ _ _ _ _ c.in_ok-check_cell.ensures

pub held-requires : goal.held-requires
held-requires c = record { tree = c.tree.ensures.tree; inside = place_from (sound_of c.args.self.now) _ _ _ c.in_ok-check_cell.ensures }

pub returns : goal.returns
returns c = cell_is (sound_of c.args.self.now) _ _ _ _ _ c.in_ok-check_cell.ensures c.tree.ensures.at c.held.ensures
