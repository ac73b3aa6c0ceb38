-- A sparse tree's meaning is lawful.
use Rattle.std.specs.Prelude.{◌≡◌, ℕ, zero, suc, ◌+◌, ◌/◌, ◌<◌, ◌≤◌, Bool, true, false, cond, List, length, Some, None, Option, ◌==◌, nat_le, nat_lt, slice_index_or, refl}
use Rattle.std.proofs.Common.{arith, sym, ap, subst, ◌∙◌}
use Rattle.std.proofs.lemmas.Bool.{and_parts, eqb-true, ltb-true}
use Rattle.words.specs.Refusals.{passed}
use Rattle.tables.specs.Meaning.{Lawful, Small, filled_of}
use Rattle.tables.specs.Answers.{allowed}
use Rattle.tables.specs.Checked.{inside_from}
use Rattle.tables.specs.PlainLaws.{held}
use Rattle.sparse.specs.declared.record.Entry.{Entry}
use Rattle.sparse.specs.declared.record.Record.{Record}
use Rattle.sparse.specs.declared.record.Record.TheVariants.{Free, Used}
use Rattle.sparse.specs.Trees.{Tree}
use Rattle.sparse.specs.Form.{tree_at, tree_from, first_of, value_in, held_in, below, formed_at, formed, valued_below, tree_formed, trees, tree_number}
use Rattle.sparse.specs.Sparse.{sparse_cell, sparse_meaning}

no : {A : Type 0} → false ≡ true → A
no e = let z : ◌≡◌ {A = ℕ} 0 1 = cc in absurd (omega arith)

none : {A : Type 0} {v : ℕ} → None ≡ Some v → A
none e = let z : ◌≡◌ {A = ℕ} 0 1 = cc in absurd (omega arith)

-- where each of two trees passes, what the first of them holds does
first_passes : (P : ℕ → Type 0) (l r : Option ℕ) → ((v : ℕ) → l ≡ Some v → P v) → ((v : ℕ) → r ≡ Some v → P v) → (v : ℕ) → first_of l r ≡ Some v → P v
first_passes P None r a b v e = b v e
first_passes P (Some w) r a b v e = a v e

here_or : (P : ℕ → Type 0) (b : Bool) (w : ℕ) (o : Option ℕ) → (b ≡ true → P w) → ((v : ℕ) → o ≡ Some v → P v) → (v : ℕ) → cond b (Some w) o ≡ Some v → P v
here_or P true w o a c v e = let q : w ≡ v = cc in subst P q (a refl)
here_or P false w o a c v e = c v e

-- a value that a formed tree holds passes the tree's test
module _ (xs : List Record) (g p : ℕ) where
  abbrev Passing : (Entry → Bool) → Tree → Type 0
  Passing ok t = (v : ℕ) → value_in t p ≡ Some v → ok (record { place = p; value = v }) ≡ true

  passing_at : (sub : Option ℕ → Tree) (test : (Entry → Bool) → Option ℕ → ℕ → ℕ → Bool) (each : (ok : Entry → Bool) (link : Option ℕ) (lo hi : ℕ) → test ok link lo hi ≡ true → Passing ok (sub link))
      (ok : Entry → Bool) (a lo hi : ℕ) (y : Record) → formed_at g ok lo hi test y ≡ true → Passing ok (tree_at a sub y)
  passing_at sub test each ok a lo hi (Free n) f v e = no f
  passing_at sub test each ok a lo hi (Used x) f v e =
      let named = and_parts (x.tree == g) _ f in
      let low = and_parts (nat_le lo x.entry.place) _ named.1 in
      let high = and_parts (nat_lt x.entry.place hi) _ low.1 in
      let q = and_parts _ _ high.1 in
      let u = and_parts _ _ q.1 in
      let l = each (below ok x.entry) x.left lo ((lo + hi) / 2) u.0 in
      let r = each (below ok x.entry) x.right ((lo + hi) / 2) hi u.1 in
      let P : ℕ → Type 0 = λ w. ok (record { place = p; value = w }) ≡ true in
      here_or P (x.entry.place == p) x.entry.value (first_of (value_in (sub x.left) p) (value_in (sub x.right) p))
      (λ b. ap (λ z. ok (record { place = z; value = x.entry.value })) (sym (eqb-true _ _ b)) ∙ q.0)
      (first_passes P (value_in (sub x.left) p) (value_in (sub x.right) p) (λ w z. (and_parts _ _ (l w z)).0) (λ w z. (and_parts _ _ (r w z)).0)) v e

  passing : (d : ℕ) (ok : Entry → Bool) (link : Option ℕ) (lo hi : ℕ) → formed d xs g ok link lo hi ≡ true → Passing ok (tree_from d xs link)
  passing zero ok None lo hi f v e = none e
  passing zero ok (Some a) lo hi f v e = no f
  passing (suc d) ok None lo hi f v e = none e
  passing (suc d) ok (Some a) lo hi f v e = passing_at (tree_from d xs) (formed d xs g) (passing d) ok a lo hi (slice_index_or xs a (Free None)) (and_parts _ _ f).1 v e

-- a filled cell is allowed, and its tree holds the value
pub sparse_held : (k n : ℕ) (roots : List (Option ℕ)) (xs : List Record) (s t i j : ℕ) → sparse_cell k n roots xs s t i ≡ Some j → (allowed k n s t i ≡ passed) × (held_in n roots xs (tree_number s t) i ≡ Some j)
unfolding sparse_cell
sparse_held k n roots xs s t i j e = held (allowed k n s t i) (held_in n roots xs (tree_number s t) i) j e

held_below : (n : ℕ) (roots : List (Option ℕ)) (xs : List Record) (g p j : ℕ) → tree_formed n roots xs g ≡ true → held_in n roots xs g p ≡ Some j → j < n
unfolding tree_formed held_in
held_below n roots xs g p j f e = ltb-true j n (passing xs g p n (valued_below n) (slice_index_or roots g None) 0 n f j e)

-- the shuttles of a table have a tree
pub number_below : (k n s t i : ℕ) → Small k n → allowed k n s t i ≡ passed → tree_number s t < trees
number_below k n s t i small ok = let h = inside_from k n s t i ok in omega (arith, h.from_below, h.to_below, small.1)

pub sparse_lawful : (k n m : ℕ) (roots : List (Option ℕ)) (xs : List Record) → Small k n → m ≤ length xs → ((g : ℕ) → g < trees → tree_formed n roots xs g ≡ true) → m ≡ filled_of k n (sparse_cell k n roots xs) → Lawful (sparse_meaning k n roots xs)
sparse_lawful k n m roots xs small few formed counted = record {
  shuttles_some = small.0;
  shuttles_few = small.1;
  moves_some = small.2;
  moves_few = small.3;
  value_below = λ s t i j e. let h = sparse_held k n roots xs s t i j e in held_below n roots xs (tree_number s t) i j (formed (tree_number s t) (number_below k n s t i small h.0)) h.1;
  cell_inside = λ s t i j e. let h = inside_from k n s t i (sparse_held k n roots xs s t i j e).0 in (h.from_below, h.to_below, h.apart, h.place_below);
  filled_le = omega (arith, counted);
}
