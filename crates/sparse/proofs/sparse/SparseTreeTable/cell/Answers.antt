use Rattle.sparse.proofs.Sparses.{sound_of, below_sixteen, number_lt, cell_is}
use Rattle.sparse.proofs.sparse.SparseTreeTable.cell.Goals as goal

pub tree_of-requires : goal.tree_of-requires
tree_of-requires c = below_sixteen _ _ _ _ _ c.args.self.now.forest.small c.in_ok-check_cell.ensures

pub cell-requires : goal.cell-requires
cell-requires c =
    let sound = sound_of c.args.self.now in
    record { inside = number_lt sound _ _ _ c.in_ok-check_cell.ensures _ c.tree_of.ensures }

pub returns : goal.returns
returns c = cell_is _ _ c.args.self.now.forest.roots _ _ _ _ c.in_ok-check_cell.ensures _ c.tree_of.ensures _ c.cell.ensures
