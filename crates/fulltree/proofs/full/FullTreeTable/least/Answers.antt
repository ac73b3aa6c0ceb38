use Rattle.fulltree.proofs.Fulls.{sound_of, pair_from, place_from, least_is}
use Rattle.fulltree.proofs.full.FullTreeTable.least.Goals as goal

pub tree-requires : goal.tree-requires
tree-requires c = pair_from _ _ _ _ _ c.in_ok-check_cell.ensures

pub least-requires : goal.least-requires
least-requires c = record { tree = c.tree.ensures.tree; inside = place_from (sound_of c.args.self.now) _ _ _ c.in_ok-check_cell.ensures }

pub returns : goal.returns
returns c = least_is (sound_of c.args.self.now) _ _ _ _ _ c.in_ok-check_cell.ensures c.tree.ensures.at c.least.ensures
