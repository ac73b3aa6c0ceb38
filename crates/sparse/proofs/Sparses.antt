-- The cells of a sparse tree and the trees that hold them.
use Rattle.std.proofs.Common.{◌≡◌, ℕ, ◌+◌, ◌-◌, ◌<◌, ◌≤◌, min, true, false, cond, ◌&&◌, eqb, ◌⊎◌, List, length, is_ok, Some, None, Ok, Err, Option, Result, sym, refl, ap, ◌∙◌, subst, subst₂, inl, inr, ⊎_elim, arith}
use mathlib.Core.Path.{fun_ext}
use Rattle.std.proofs.lemmas.Bool.Decides.{nat_tests}
use Rattle.std.proofs.lemmas.Bool.{lt-ltb, le-ltb, cases_Bool}
use Rattle.words.specs.declared.Refusal.{Refusal}
use Rattle.words.specs.Refusals.{passed, refused, if_done}
use Rattle.tables.specs.Meaning.{one, filled_of, with_cell, Small, least_of, last_of}
use Rattle.tables.specs.Answers.{allowed, valued, sizable, cell_answer, put_answer, put_after, clear_after, least_answer, last_answer}
use Rattle.tables.specs.Checked.{Inside, inside_from}
use Rattle.tables.proofs.Allowed.{allowed_or, allowed_at, sizable_small}
use Rattle.tables.proofs.Counting.{same_or, set_cell, filled_set, filled_ge, filled_none}
use Rattle.tables.proofs.Extremes.{least_like, last_like}
use Rattle.sparse.specs.declared.record.Record.{Record}
use Rattle.sparse.specs.declared.sparse.Forest.{Forest}
use Rattle.sparse.specs.declared.sparse.SparseTree.{SparseTree}
use Rattle.sparse.specs.Form.{held_in, tree_formed, chained, trees, tree_number, Good, Changed}
use Rattle.sparse.specs.Sparse.{sparse_cell, sparse_meaning, sparse_used}
use Rattle.sparse.specs.SparseLaws.{number_below}
use Rattle.sparse.proofs.Forms.{good_from, trees_tested, spare_tested, spare_few}

-- what a sparse tree's ghost fields say, of k shuttles with n moves, m filled cells, the first free record, the roots and the records
pub record Sound (k n m : ℕ) (head : Option ℕ) (roots : List (Option ℕ)) (xs : List Record) : Type 0 where
  pub small : Small k n
  pub few : length xs ≤ 65535
  pub good : Good n head m roots xs
  pub counted : m ≡ filled_of k n (sparse_cell k n roots xs)

pub good_of : (x : Forest) → Good x.aisle.moves x.head x.filled x.roots x.records.now
good_of x = good_from _ _ _ x.roots _ x.within x.formed x.spare

pub sound_of : (x : SparseTree) → Sound x.forest.aisle.shuttles x.forest.aisle.moves x.forest.filled x.forest.head x.forest.roots x.forest.records.now
sound_of x = record { small = x.forest.small; few = x.forest.few; good = good_of x.forest; counted = x.counted }

-- what the trees owe after a change
pub owed : {k n m : ℕ} {head : Option ℕ} {roots : List (Option ℕ)} {xs : List Record} → Small k n → length xs ≤ 65535 → Good n head m roots xs →
    record {
      small : Small k n;
      few : length xs ≤ 65535;
      formed : (g : ℕ) → g < trees → tree_formed n roots xs g ≡ true;
      within : m ≤ length xs;
      spare : chained (length xs - m) xs head ≡ true;
    }
owed {k} {n} {m} {head} {roots} {xs} small few good = record {
  small = small;
  few = few;
  formed = trees_tested n m head roots xs good;
  within = spare_few n m head roots xs good;
  spare = spare_tested n m head roots xs good;
}

pub number_few : (k n s t i : ℕ) → Small k n → passed ≡ allowed k n s t i → tree_number s t < trees
number_few k n s t i small ok = number_below k n s t i small (sym ok)

pub below_sixteen : (k n s t i : ℕ) → Small k n → passed ≡ allowed k n s t i → (s < 16) × (t < 16)
below_sixteen k n s t i small ok = let h = inside_from k n s t i (sym ok) in (omega (arith, h.from_below, small.1), omega (arith, h.to_below, small.1))

cell_at : (k n : ℕ) (roots : List (Option ℕ)) (xs : List Record) (s t i : ℕ) → allowed k n s t i ≡ passed → sparse_cell k n roots xs s t i ≡ held_in n roots xs (tree_number s t) i
unfolding sparse_cell
cell_at k n roots xs s t i e = rw e

cell_none : (k n : ℕ) (roots : List (Option ℕ)) (xs : List Record) (s t i : ℕ) → is_ok (allowed k n s t i) ≡ false → sparse_cell k n roots xs s t i ≡ None
unfolding sparse_cell
cell_none k n roots xs s t i e = rw e

-- what is asked
module _ (k n : ℕ) (roots : List (Option ℕ)) (xs : List Record) (s t i : ℕ) (ok : passed ≡ allowed k n s t i) (g : ℕ) (is : g ≡ tree_number s t) (r : Option ℕ) where
  pub cell_is : r ≡ held_in n roots xs g i → Ok r ≡ cell_answer (sparse_meaning k n roots xs) s t i
  cell_is e = rw (← ok) (ap Ok (e ∙ ap (λ z. held_in n roots xs z i) is ∙ sym (cell_at k n roots xs s t i (sym ok))))

  row : (c : ℕ) → c < n → sparse_cell k n roots xs s t c ≡ held_in n roots xs g c
  row c l = cell_at k n roots xs s t c (allowed_at k n s t i c (sym ok) l) ∙ ap (λ z. held_in n roots xs z c) (sym is)

  pub least_is : r ≡ least_of (held_in n roots xs g) i n → Ok r ≡ least_answer (sparse_meaning k n roots xs) s t i
  least_is e = rw (← ok) (ap Ok (e ∙ sym (least_like (sparse_cell k n roots xs s t) (held_in n roots xs g) i n row)))

  pub last_is : r ≡ last_of (held_in n roots xs g) i n → Ok r ≡ last_answer (sparse_meaning k n roots xs) s t i
  last_is e = rw (← ok) (ap Ok (e ∙ sym (last_like (sparse_cell k n roots xs s t) (held_in n roots xs g) i n row)))

-- one cell of a table is changed
module _ {k n m : ℕ} {head : Option ℕ} {roots : List (Option ℕ)} {xs : List Record} (sound : Sound k n m head roots xs) (s t i : ℕ) (ok : passed ≡ allowed k n s t i) (g : ℕ) (is : g ≡ tree_number s t) where
  inside : Inside k n s t i
  inside = inside_from k n s t i (sym ok)

  here : sparse_cell k n roots xs s t i ≡ held_in n roots xs g i
  here = cell_at k n roots xs s t i (sym ok) ∙ ap (λ z. held_in n roots xs z i) (sym is)

  pub number_lt : g < trees
  number_lt = omega (arith, is, number_few k n s t i sound.small ok)

  -- a filled cell is counted
  pub some_filled : (v : ℕ) → Some v ≡ held_in n roots xs g i → 0 < m
  some_filled v e = omega (arith, sound.counted, filled_ge k n (sparse_cell k n roots xs) s t i inside, ap one (here ∙ sym e))

  module _ (v : Option ℕ) (roots' : List (Option ℕ)) (xs' : List Record) (changed : Changed n roots xs roots' xs' g i v) where
    -- the tree's number tells the pair
    same_test : (a b c : ℕ) → b < 16 → (eqb (tree_number a b) g && eqb c i) ≡ (eqb a s && eqb b t && eqb c i)
    same_test a b c l = let less = below_sixteen k n s t i sound.small ok in grind (arith, nat_tests)

    cells : sparse_cell k n roots' xs' ≡ set_cell (sparse_cell k n roots xs) s t i v
    cells = fun_ext (λ a. fun_ext (λ b. fun_ext (λ c. at a b c)))
      where
        at : (a b c : ℕ) → sparse_cell k n roots' xs' a b c ≡ set_cell (sparse_cell k n roots xs) s t i v a b c
        at a b c =
            ⊎_elim
            (λ (bad : is_ok (allowed k n a b c) ≡ false).
            cell_none k n roots' xs' a b c bad
            ∙ ⊎_elim
            (λ yes'. absurd (let z : is_ok (allowed k n s t i) ≡ false = rw (← yes'.1, ← yes'.2, ← yes'.3) bad in let y : is_ok (allowed k n s t i) ≡ true = rw (← ok) in let x : ◌≡◌ {A = ℕ} 0 1 = cc in omega arith))
            (λ no'. rw no'.0 (sym (cell_none k n roots xs a b c bad)))
            (same_or s t i a b c))
            (λ (good : allowed k n a b c ≡ passed).
            let less = below_sixteen k n a b c sound.small (sym good) in
            cell_at k n roots' xs' a b c good
            ∙ changed (tree_number a b) c (number_few k n a b c sound.small (sym good))
            ∙ ap (λ z. cond z v (held_in n roots xs (tree_number a b) c)) (same_test a b c less.1)
            ∙ ap (cond (eqb a s && eqb b t && eqb c i) v) (sym (cell_at k n roots xs a b c good)))
            (allowed_or k n a b c)

    -- the sizes stay
    module _ (k' n' : ℕ) (shuttles : k' ≡ k) (moves : n' ≡ n) (len : length xs' ≡ length xs) where
      pub changed_means : sparse_meaning k' n' roots' xs' ≡ with_cell (sparse_meaning k n roots xs) s t i v
      changed_means =
          subst₂ (λ a b. sparse_meaning a b roots' xs' ≡ with_cell (sparse_meaning k n roots xs) s t i v) (sym shuttles) (sym moves) (λ z. record { shuttles = k; moves = n; capacity = len z; cell = cells z })

      pub changed_sound : (m' : ℕ) (head' : Option ℕ) → Good n' head' m' roots' xs' → m' + one (held_in n roots xs g i) ≡ m + one v → Sound k' n' m' head' roots' xs'
      changed_sound m' head' good more = subst₂ (λ a b. Sound a b m' head' roots' xs') (sym shuttles) (sym moves) (record {
        small = sound.small;
        few = omega (arith, len, sound.few);
        good = subst (λ b. Good b head' m' roots' xs') moves good;
        counted = omega (arith, more, ap one here, sound.counted, ap (filled_of k n) cells, filled_set k n (sparse_cell k n roots xs) s t i v inside);
      })

  -- a put onto a filled cell needs no room
  pub refill_answer : (j v : ℕ) → passed ≡ valued n j → Some v ≡ held_in n roots xs g i → passed ≡ put_answer (sparse_meaning k n roots xs) s t i j
  refill_answer j v value e = rw (← ok, ← value, here ∙ sym e)

  pub fill_answer : (j : ℕ) → passed ≡ valued n j → None ≡ held_in n roots xs g i → m < length xs → passed ≡ put_answer (sparse_meaning k n roots xs) s t i j
  fill_answer j value e l = rw (← ok, ← value, here ∙ sym e, ← sound.counted, lt-ltb m (length xs) l)

  module _ (j : ℕ) (value : passed ≡ valued n j) (e : None ≡ held_in n roots xs g i) (l : length xs ≤ m) where
    pub full_answer : refused 8 ≡ put_answer (sparse_meaning k n roots xs) s t i j
    full_answer = rw (← ok, ← value, here ∙ sym e, ← sound.counted, le-ltb m (length xs) l)

    pub full_means : sparse_meaning k n roots xs ≡ put_after (sparse_meaning k n roots xs) s t i j
    full_means = rw (← full_answer)

  module _ (k' n' : ℕ) (roots' : List (Option ℕ)) (xs' : List Record) (shuttles : k' ≡ k) (moves : n' ≡ n) (len : length xs' ≡ length xs) where
    pub put_means : (j : ℕ) → passed ≡ put_answer (sparse_meaning k n roots xs) s t i j → Changed n roots xs roots' xs' g i (Some j) → sparse_meaning k' n' roots' xs' ≡ put_after (sparse_meaning k n roots xs) s t i j
    put_means j done changed = rw (← done) (changed_means (Some j) roots' xs' changed k' n' shuttles moves len)

    pub clear_means : Changed n roots xs roots' xs' g i None → sparse_meaning k' n' roots' xs' ≡ clear_after (sparse_meaning k n roots xs) s t i
    clear_means changed = rw (← ok) (changed_means None roots' xs' changed k' n' shuttles moves len)

  -- a cell that is empty already
  pub nothing_changed : None ≡ held_in n roots xs g i → Changed n roots xs roots xs g i None
  nothing_changed e h q l = go (cases_Bool (eqb h g && eqb q i))
    where
      go : ((eqb h g && eqb q i) ≡ true) ⊎ ((eqb h g && eqb q i) ≡ false) → held_in n roots xs h q ≡ cond (eqb h g && eqb q i) None (held_in n roots xs h q)
      go (inl y) = let a : h ≡ g = grind (arith, nat_tests) in let b : q ≡ i = grind (arith, nat_tests) in rw y (rw (a, b) (sym e))
      go (inr z) = rw z

-- a table without an entry
module _ (k n : ℕ) (head : Option ℕ) (roots : List (Option ℕ)) (xs : List Record) (none : (g p : ℕ) → held_in n roots xs g p ≡ None) where
  pub empty_cells : sparse_cell k n roots xs ≡ (λ s t i. None)
  empty_cells = fun_ext (λ s. fun_ext (λ t. fun_ext (λ i. ⊎_elim (cell_none k n roots xs s t i) (λ e. cell_at k n roots xs s t i e ∙ none (tree_number s t) i) (allowed_or k n s t i))))

  pub empty_sound : (m : ℕ) → m ≡ 0 → Small k n → length xs ≤ 65535 → Good n head m roots xs → Sound k n m head roots xs
  empty_sound m none_filled small few good = record { small = small; few = few; good = good; counted = none_filled ∙ sym (ap (filled_of k n) empty_cells ∙ filled_none k n) }

  pub empty_means : (k₀ n₀ l : ℕ) → k ≡ k₀ → n ≡ n₀ → length xs ≡ l → sparse_meaning k n roots xs ≡ record { shuttles = k₀; moves = n₀; capacity = l; cell = λ s t i. None }
  empty_means k₀ n₀ l shuttles moves len = λ z. record { shuttles = shuttles z; moves = moves z; capacity = len z; cell = empty_cells z }

pub small_like : {k n k₀ n₀ : ℕ} → k ≡ k₀ → n ≡ n₀ → Small k₀ n₀ → Small k n
small_like e f small = (omega (arith, small.0), omega (arith, small.1), omega (arith, small.2), omega (arith, small.3))

-- a table that is made
made_by : (k n : ℕ) (r : Result Unit Refusal) → sizable k n ≡ r → Small (if_done r 1 k) (if_done r 1 n)
made_by k n (Ok u) e = sizable_small k n e
made_by k n (Err x) e = (omega arith, omega arith, omega arith, omega arith)

pub made_small : (k n : ℕ) → Small (if_done (sizable k n) 1 k) (if_done (sizable k n) 1 n)
made_small k n = made_by k n (sizable k n) refl

used_by : (r : Result Unit Refusal) (l : ℕ) → if_done r 0 (min l 65535) ≤ 65535
used_by (Ok u) l = omega arith
used_by (Err x) l = omega arith

pub used_few : (k n l : ℕ) → sparse_used k n l ≤ 65535
used_few k n l = used_by (sizable k n) l
