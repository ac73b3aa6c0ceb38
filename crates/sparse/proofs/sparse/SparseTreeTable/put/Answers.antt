use Rattle.std.proofs.Common.{Some, sym, refl, ap, arith}
use Rattle.std.proofs.lemmas.Bool.{leb-true, leb-false}
use Rattle.tables.specs.Meaning.{one}
use Rattle.tables.specs.Checked.{inside_from}
use Rattle.tables.proofs.Allowed.{value_from}
use Rattle.sparse.proofs.Sparses.{sound_of, below_sixteen, number_lt, good_of, some_filled, changed_sound, refill_answer, fill_answer, full_answer, full_means, put_means}
use Rattle.sparse.proofs.sparse.SparseTreeTable.put.Goals as goal

pub tree_of-tree-requires : goal.tree_of-tree-requires
tree_of-tree-requires c = below_sixteen _ _ _ _ _ c.args.self.now.forest.small c.in_ok-check_cell.ensures

pub cell-requires : goal.cell-requires
cell-requires c =
    let sound = sound_of c.args.self.now in
    record { inside = number_lt sound _ _ _ c.in_ok-check_cell.ensures _ c.tree_of-tree.ensures }

pub refill-requires : goal.refill-requires
refill-requires c =
    let sound = sound_of c.args.self.now in
    let ok = c.in_ok-check_cell.ensures in
    let is = c.tree_of-tree.ensures in
    record {
      inside = number_lt sound _ _ _ ok _ is;
      place = (inside_from _ _ _ _ _ (sym ok)).place_below;
      value = value_from _ _ (sym c.in_ok-check_value.ensures);
      held = (c.in-Some.field-0, sym c.in-Some.ensures);
      some = some_filled sound _ _ _ ok _ is _ c.in-Some.ensures;
    }

pub fill-requires : goal.fill-requires
fill-requires c =
    let sound = sound_of c.args.self.now in
    let ok = c.in_ok-check_cell.ensures in
    record {
      inside = number_lt sound _ _ _ ok _ c.tree_of-tree.ensures;
      place = (inside_from _ _ _ _ _ (sym ok)).place_below;
      value = value_from _ _ (sym c.in_ok-check_value.ensures);
      empty = sym c.in-None.ensures;
      room = leb-false _ _ (sym c.if-is_full.ensures);
    }

pub invariant_of-self : goal.invariant_of-self
invariant_of-self c =
    let h = c.refill.ensures in
    record { counted = (changed_sound (sound_of c.args.self.now) _ _ _ c.in_ok-check_cell.ensures _ c.tree_of-tree.ensures (Some c.args.j) _ _ h.cells _ _ (ap (λ a. a.shuttles) h.same.0) (ap (λ a. a.moves) h.same.0) h.same.1 _ _ (good_of c.refill.new.self) (omega (arith, h.filled, ap one c.in-Some.ensures))).counted }

pub invariant_of-self-in-None : goal.invariant_of-self-in-None
invariant_of-self-in-None c =
    let h = c.fill.ensures in
    record { counted = (changed_sound (sound_of c.args.self.now) _ _ _ c.in_ok-check_cell.ensures _ c.tree_of-tree.ensures (Some c.args.j) _ _ h.cells _ _ (ap (λ a. a.shuttles) h.same.0) (ap (λ a. a.moves) h.same.0) h.same.1 _ _ (good_of c.fill.new.self) (omega (arith, h.filled, ap one c.in-None.ensures))).counted }

pub returns-then-is_full : goal.returns-then-is_full
returns-then-is_full c =
    let sound = sound_of c.args.self.now in
    let ok = c.in_ok-check_cell.ensures in
    let is = c.tree_of-tree.ensures in
    let value = c.in_ok-check_value.ensures in
    let full = leb-true _ _ (sym c.if-is_full.ensures) in
    record {
      answer = full_answer sound _ _ _ ok _ is _ value c.in-None.ensures full;
      after = full_means sound _ _ _ ok _ is _ value c.in-None.ensures full;
      refused = refl;
    }

pub returns-in-Some : goal.returns-in-Some
returns-in-Some c =
    let sound = sound_of c.args.self.now in
    let ok = c.in_ok-check_cell.ensures in
    let is = c.tree_of-tree.ensures in
    let h = c.refill.ensures in
    let done = refill_answer sound _ _ _ ok _ is _ _ c.in_ok-check_value.ensures c.in-Some.ensures in
    record { answer = done; after = put_means sound _ _ _ ok _ is _ _ _ _ (ap (λ a. a.shuttles) h.same.0) (ap (λ a. a.moves) h.same.0) h.same.1 _ done h.cells; refused = tt }

pub returns-else-is_full : goal.returns-else-is_full
returns-else-is_full c =
    let sound = sound_of c.args.self.now in
    let ok = c.in_ok-check_cell.ensures in
    let is = c.tree_of-tree.ensures in
    let h = c.fill.ensures in
    let done = fill_answer sound _ _ _ ok _ is _ c.in_ok-check_value.ensures c.in-None.ensures (leb-false _ _ (sym c.if-is_full.ensures)) in
    record { answer = done; after = put_means sound _ _ _ ok _ is _ _ _ _ (ap (λ a. a.shuttles) h.same.0) (ap (λ a. a.moves) h.same.0) h.same.1 _ done h.cells; refused = tt }
