use Rattle.std.proofs.Common.{refl, ap, ◌∙◌}
use Rattle.fulltree.specs.Full.{full_check}
use Rattle.fulltree.specs.Leaves.{leaves_of}
use Rattle.fulltree.proofs.Fulls.{owed, made_over, made_means, made_leaves}
use Rattle.fulltree.proofs.full.FullTree.make.Goals as goal

pub invariant_of-result : goal.invariant_of-result
invariant_of-result c =
    let h = c.over-lent.ensures in
    owed (made_over _ _ _ _ _ _ _ _ c.args.cells.now _ _ refl c.numbers_of.ensures h.shuttles h.moves c.leaves_for-leaves.ensures.is h.used h.filled h.numbers)

pub returns : goal.returns
unfolding full_check
returns c =
    let h = c.over-lent.ensures in
    let a = c.args.aisle in
    let leaves = c.leaves_for-leaves.ensures.is ∙ ap leaves_of h.moves ∙ made_leaves _ a.moves in
    record {
      means = simp (leaves, h.shuttles, h.moves, h.numbers, c.numbers_of.ensures) (made_means a.shuttles a.moves c.args.cells.now _ refl);
      used = simp c.numbers_of.ensures at h.used;
      numbers = simp c.numbers_of.ensures at h.numbers;
    }
