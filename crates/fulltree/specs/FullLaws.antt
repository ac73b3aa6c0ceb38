-- A full tree's meaning is lawful.
use Rattle.std.specs.Prelude.{◌≡◌, ℕ, suc, ◌+◌, ◌*◌, ◌/◌, ◌%◌, ◌<◌, ◌≤◌, Bool, true, false, cond, ◌&&◌, ◌||◌, List, Some, None, Option, ◌==◌, ◌≢◌, nat_lt, slice_index_or, refl}
use Rattle.std.proofs.Common.{suc-mul, arith}
use Rattle.std.proofs.lemmas.Nat.{mul-le, mul-add-lt}
use Rattle.std.proofs.lemmas.Bool.{ltb-true, le-ltb}
use Rattle.std.proofs.lemmas.Bool.Decides.{Decides-below_and}
use Rattle.words.specs.Refusals.{passed}
use Rattle.tables.specs.Meaning.{Lawful, Small}
use Rattle.tables.specs.Answers.{allowed}
use Rattle.tables.specs.Checked.{inside_from}
use Rattle.tables.specs.Filled.{filled_le}
use Rattle.tables.specs.PlainLaws.{held}
use Rattle.fulltree.specs.Leaves.{leaves_of, leaves_enough}
use Rattle.fulltree.specs.Tree.{leaf, right_at, all_below, tree_sound}
use Rattle.fulltree.specs.Full.{stretch, pair_of, places, full_cell, tree_meaning, Pair}

-- a filled cell is allowed, and a leaf stands for what it holds
full_held : (k n p : ℕ) (cs : List ℕ) (s t i j : ℕ) → full_cell k n p cs s t i ≡ Some j → (allowed k n s t i ≡ passed) × (leaf p (stretch (2 * p) cs (pair_of k s t)) i ≡ Some j)
unfolding full_cell
full_held k n p cs s t i j e = held (allowed k n s t i) (leaf p (stretch (2 * p) cs (pair_of k s t)) i) j e

pub full_same : (k n p : ℕ) (cs : List ℕ) (s i : ℕ) → full_cell k n p cs s s i ≡ None
full_same k n p cs s i = go (full_cell k n p cs s s i) refl
  where
    go : (o : Option ℕ) → full_cell k n p cs s s i ≡ o → o ≡ None
    go None e = refl
    go (Some j) e = absurd ((inside_from k n s s i (full_held k n p cs s s i j e).0).apart refl)

each_below : (f : ℕ → Bool) (n q : ℕ) → all_below f n ≡ true → q < n → f q ≡ true
each_below f n q e l = (Decides-below_and f (λ x. f x ≡ true) (all_below f) (λ x. ((λ t. t), (λ t. t))) refl (λ _. refl) n).0 e q l

-- a leaf of a tree for m places that stands for a value stands for one below m
leaf_value : (empty near : Bool) (v m j : ℕ) → (empty || (near && nat_lt v m)) ≡ true → cond empty None (Some v) ≡ Some j → j < m
leaf_value true near v m j e o = let z : ◌≡◌ {A = ℕ} 0 1 = cc in absurd (omega arith)
leaf_value false true v m j e o = let same : v ≡ j = cc in omega (arith, ltb-true v m e)
leaf_value false false v m j e o = let z : ◌≡◌ {A = ℕ} 0 1 = cc in absurd (omega arith)

leaf_below : (m p : ℕ) (row : List ℕ) (i j : ℕ) → i < p → tree_sound m p row ≡ true → leaf p row i ≡ Some j → j < m
unfolding tree_sound
leaf_below m p row i j l sound o =
    let v = slice_index_or row (p + i) 0 in
    let at : right_at m p row (p + i) ≡ true = each_below (right_at m p row) (2 * p) (p + i) sound (omega arith) in
    leaf_value (v == 65535) (nat_lt (p + i) (p + m)) v m j (rw (le-ltb (p + i) p (omega arith)) at at) o

places_le : (k n q : ℕ) → places k n q ≤ n
places_le k n q = go (q / k == q % k)
  where
    go : (b : Bool) → cond b 0 n ≤ n
    go true = omega arith
    go false = omega arith

-- the stretch q is one of r
pub stretch_fits : (r w q : ℕ) → q < r → q * w + w ≤ r * w
stretch_fits r w q l = omega (arith, mul-le (suc q) w r w l (omega arith), suc-mul q w)

module _ (k n p u : ℕ) (cs : List ℕ) (small : Small k n) (wide : p ≡ leaves_of n) (some : 1 < k → 0 < u) (whole : 0 < u → u ≡ k * k * (2 * p))
    (trees : (q : ℕ) → q * (2 * p) < u → tree_sound (places k n q) p (stretch (2 * p) cs q) ≡ true) where
  -- with two different shuttles in the table, there are two, and all stretches of the pairs are in use
  pub pair_used : (s t : ℕ) → Pair k s t → pair_of k s t * (2 * p) + 2 * p ≤ u
  pair_used s t pair =
      let two : 1 < k = two_of s t pair.0 pair.1 pair.2 in
      omega (arith, whole (some two), stretch_fits (k * k) (2 * p) (pair_of k s t) (mul-add-lt s k t k pair.0 pair.1))
    where
      two_of : (s t : ℕ) → s < k → t < k → (s ≢ t) → 1 < k
      two_of s t a b c = omega arith

  pub pair_sound : (s t : ℕ) → Pair k s t → tree_sound (places k n (pair_of k s t)) p (stretch (2 * p) cs (pair_of k s t)) ≡ true
  pair_sound s t pair = trees (pair_of k s t) (omega (arith, pair_used s t pair, wide, leaves_enough n, small.2))

  pub full_lawful : Lawful (tree_meaning k n p cs)
  full_lawful = record {
    shuttles_some = small.0;
    shuttles_few = small.1;
    moves_some = small.2;
    moves_few = small.3;
    value_below = λ s t i j e.
        let h = full_held k n p cs s t i j e in
        let g = inside_from k n s t i h.0 in
        let sound' = pair_sound s t (g.from_below, g.to_below, g.apart) in
        omega (arith, places_le k n (pair_of k s t), leaf_below (places k n (pair_of k s t)) p (stretch (2 * p) cs (pair_of k s t)) i j (omega (arith, g.place_below, wide, leaves_enough n)) sound' h.1);
    cell_inside = λ s t i j e. let h = inside_from k n s t i (full_held k n p cs s t i j e).0 in (h.from_below, h.to_below, h.apart, h.place_below);
    filled_le = filled_le k n (full_cell k n p cs) (full_same k n p cs) small.0;
  }
