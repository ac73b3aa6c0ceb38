use Rattle.std.proofs.Common.{None, sym, refl, ap, arith}
use Rattle.tables.specs.Meaning.{one}
use Rattle.sparse.proofs.Sparses.{sound_of, below_sixteen, number_lt, good_of, some_filled, changed_sound, clear_means, nothing_changed}
use Rattle.sparse.proofs.sparse.SparseTreeTable.clear.Goals as goal

pub tree_of-tree-requires : goal.tree_of-tree-requires
tree_of-tree-requires c = below_sixteen _ _ _ _ _ c.args.self.now.forest.small c.in_ok-check_cell.ensures

pub cell-requires : goal.cell-requires
cell-requires c =
    let sound = sound_of c.args.self.now in
    record { inside = number_lt sound _ _ _ c.in_ok-check_cell.ensures _ c.tree_of-tree.ensures }

pub empty_cell-requires : goal.empty_cell-requires
empty_cell-requires c =
    let sound = sound_of c.args.self.now in
    let ok = c.in_ok-check_cell.ensures in
    let is = c.tree_of-tree.ensures in
    record {
      inside = number_lt sound _ _ _ ok _ is;
      held = (c.in-Some.field-0, sym c.in-Some.ensures);
      some = some_filled sound _ _ _ ok _ is _ c.in-Some.ensures;
    }

pub invariant_of-self : goal.invariant_of-self
invariant_of-self c =
    let h = c.empty_cell.ensures in
    record { counted = (changed_sound (sound_of c.args.self.now) _ _ _ c.in_ok-check_cell.ensures _ c.tree_of-tree.ensures None _ _ h.cells _ _ (ap (λ a. a.shuttles) h.same.0) (ap (λ a. a.moves) h.same.0) h.same.1 _ _ (good_of c.empty_cell.new.self) (omega (arith, h.filled, ap one c.in-Some.ensures))).counted }

pub returns-in-Some : goal.returns-in-Some
returns-in-Some c =
    let h = c.empty_cell.ensures in
    record {
      answer = c.in_ok-check_cell.ensures;
      after = clear_means (sound_of c.args.self.now) _ _ _ c.in_ok-check_cell.ensures _ c.tree_of-tree.ensures _ _ _ _ (ap (λ a. a.shuttles) h.same.0) (ap (λ a. a.moves) h.same.0) h.same.1 h.cells;
      refused = tt;
    }

pub returns-in-None : goal.returns-in-None
returns-in-None c =
    let sound = sound_of c.args.self.now in
    let ok = c.in_ok-check_cell.ensures in
    let is = c.tree_of-tree.ensures in
    record {
      answer = ok;
      after = clear_means sound _ _ _ ok _ is _ _ _ _ refl refl refl (nothing_changed sound _ _ _ ok _ is c.in-None.ensures);
      refused = tt;
    }
