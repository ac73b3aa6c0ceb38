-- The cells of a full tree and their stretches of the buffer.
use Rattle.std.proofs.Common.{◌≡◌, ℕ, ◌+◌, ◌-◌, ◌*◌, ◌/◌, ◌%◌, ◌<◌, ◌≤◌, true, false, cond, eqb, ◌⊎◌, List, length, get_or, drop, replicate, is_ok, Some, None, Ok, Err, Option, Result, sym, refl, ap, ◌∙◌, inl, inr, ⊎_elim, arith}
use mathlib.Core.Path.{fun_ext}
use Rattle.std.proofs.lemmas.Nat.{div-mul-add, mod-mul-add, mul-le, mul-lt, mul-add-lt}
use Rattle.std.proofs.lemmas.List.{get_or-replicate, get_or_append_left, length-replicate, length-append}
use Rattle.std.proofs.lemmas.Bool.Decides.{nat_tests}
use Rattle.std.proofs.lemmas.Bool.{leb-true, ne_eqb, cases_eq, cases_lt}
use Rattle.words.specs.declared.Refusal.{Refusal}
use Rattle.words.specs.Refusals.{passed, if_done}
use Rattle.words.proofs.Checks.{then_first, then_second, unless_passed}
use Rattle.tables.specs.Meaning.{one, filled_of, with_cell, full_meaning, Small, least_of, last_of}
use Rattle.tables.specs.Answers.{allowed, valued, sizable, put_answer, put_after, clear_after, cell_answer, least_answer, last_answer}
use Rattle.tables.specs.Checked.{Inside, inside_from}
use Rattle.tables.specs.Filled.{filled_le}
use Rattle.tables.specs.Plain.{decoded, encoded, buffer_check, wiped_front}
use Rattle.tables.proofs.Allowed.{allowed_from, allowed_or, value_from, sizable_small}
use Rattle.tables.proofs.Counting.{same_or, set_cell, filled_set, filled_ge, filled_none, room_full}
use Rattle.tables.proofs.Plains.{Fit, decoded_encoded}
use Rattle.fulltree.specs.Leaves.{leaves_of, leaves_power, leaves_enough, leaves_smallest}
use Rattle.fulltree.specs.Tree.{leaf, tree_sound, Tree, stored}
use Rattle.fulltree.specs.Full.{stretch, pair_of, full_stored, places, full_cell, tree_meaning, Pair, numbers_of, full_check}
use Rattle.fulltree.specs.declared.full.FullTree.{FullTree}
use Rattle.fulltree.specs.FullLaws.{full_same, stretch_fits, pair_used, pair_sound}
use Rattle.fulltree.proofs.Mending.{length_stored, stored_same, stored_other, stored_sound, blank_sound, own_empty, tree_from, sound_tells}
use Rattle.fulltree.proofs.Stretches.{length_stretch, stretch_number, stretch_same, stretch_other, length_with_stretch}
use Rattle.tables.proofs.Extremes.{least_like, last_like}
use Rattle.fulltree.proofs.Rows.{least_past, last_past}

-- the stretch tells the pair
pair_tells : (k s t a b : ℕ) → t < k → b < k → pair_of k a b ≡ pair_of k s t → (a ≡ s) × (b ≡ t)
pair_tells k s t a b lt lb e = (
  sym (div-mul-add a k b lb) ∙ ap (λ x. x / k) e ∙ div-mul-add s k t lt,
  sym (mod-mul-add a k b lb) ∙ ap (λ x. x % k) e ∙ mod-mul-add s k t lt,
)

-- the tree of two different shuttles has all places
places_all : (k n s t : ℕ) → Pair k s t → places k n (pair_of k s t) ≡ n
places_all k n s t pair = rw (div-mul-add s k t pair.1, mod-mul-add s k t pair.1, ne_eqb s t pair.2)

-- and that of a shuttle and itself has none
places_own : (k n s : ℕ) → s < k → places k n (pair_of k s s) ≡ 0
places_own k n s l = rw (div-mul-add s k s l, mod-mul-add s k s l) (own s)
  where
    own : (s : ℕ) → cond (eqb s s) 0 n ≡ 0
    own s = grind (arith, nat_tests)

-- the pair of a cell that is allowed
pub pair_from : (k n s t i : ℕ) → passed ≡ allowed k n s t i → Pair k s t
pair_from k n s t i ok = let h = inside_from k n s t i (sym ok) in (h.from_below, h.to_below, h.apart)

full_cell_at : (k n p : ℕ) (cs : List ℕ) (s t i : ℕ) → allowed k n s t i ≡ passed → full_cell k n p cs s t i ≡ leaf p (stretch (2 * p) cs (pair_of k s t)) i
unfolding full_cell
full_cell_at k n p cs s t i e = rw e

full_cell_none : (k n p : ℕ) (cs : List ℕ) (s t i : ℕ) → is_ok (allowed k n s t i) ≡ false → full_cell k n p cs s t i ≡ None
unfolding full_cell
full_cell_none k n p cs s t i e = rw e

-- what a full tree's ghost fields say, of k shuttles with n moves, p leaves, u used numbers, m filled cells and the buffer
pub record Sound (k n p u m : ℕ) (cs : List ℕ) : Type 0 where
  pub small : Small k n
  pub wide : p ≡ leaves_of n
  pub within : u ≤ length cs
  pub some : 1 < k → 0 < u
  pub whole : 0 < u → u ≡ k * k * (2 * p)
  pub trees : (q : ℕ) → q * (2 * p) < u → tree_sound (places k n q) p (stretch (2 * p) cs q) ≡ true
  pub counted : m ≡ filled_of k n (full_cell k n p cs)

pub sound_of : (x : FullTree) → Sound x.lent.aisle.shuttles x.lent.aisle.moves x.leaves x.lent.used x.lent.filled x.lent.cells.now
sound_of x = record { small = x.lent.small; wide = x.wide; within = x.lent.within; some = x.some; whole = x.whole; trees = x.trees; counted = x.counted }

-- the same, as it is owed after a change; the sizes and the length of the buffer are a fact of what is lent
pub owed : {k n p u m : ℕ} {cs : List ℕ} → Sound k n p u m cs →
    record {
      wide : p ≡ leaves_of n;
      some : 1 < k → 0 < u;
      whole : 0 < u → u ≡ k * k * (2 * p);
      trees : (q : ℕ) → q * (2 * p) < u → tree_sound (places k n q) p (stretch (2 * p) cs q) ≡ true;
      counted : m ≡ filled_of k n (full_cell k n p cs);
    }
owed h = record { wide = h.wide; some = h.some; whole = h.whole; trees = h.trees; counted = h.counted }

fit_encoded : (n i : ℕ) (v : Option ℕ) → i < n → Fit n v → (encoded v ≡ 65535) ⊎ ((i < n) × (encoded v < n))
fit_encoded n i None l fit = inl refl
fit_encoded n i (Some j) l fit = inr (l, fit)

module _ {k n p u m : ℕ} {cs : List ℕ} (sound : Sound k n p u m cs) where
  -- the count stays far below what a 32-bit number can tell
  pub filled_few : m < 2147483648
  filled_few =
      let rows : k * (k - 1) ≤ 256 = mul-le k (k - 1) 16 16 sound.small.1 (omega arith) in
      omega (arith, sound.counted, filled_le k n (full_cell k n p cs) (full_same k n p cs) sound.small.0, mul-le (k * (k - 1)) n 256 4096 rows sound.small.3)

  pub leaves_few : p < 65536
  leaves_few = omega (arith, sound.wide, sound.small.2, sound.small.3, leaves_smallest n sound.small.2)

  enough : n ≤ p
  enough = omega (arith, sound.wide, leaves_enough n)

  -- 65,535 stands between a shuttle and itself
  pub own_stretch : (s c : ℕ) → 1 < k → s < k → c < 2 * p → get_or cs (pair_of k s s * (2 * p) + c) 0 ≡ 65535
  own_stretch s c two l b =
      let q = pair_of k s s in
      let used = sound.whole (sound.some two) in
      let tree : tree_sound 0 p (stretch (2 * p) cs q) ≡ true = ap (λ x. tree_sound x p (stretch (2 * p) cs q)) (sym (places_own k n s l)) ∙ sound.trees q (omega (arith, stretch_fits (k * k) (2 * p) q (mul-add-lt s k s k l l))) in
      sym (stretch_number (2 * p) cs q c b) ∙ own_empty p (stretch (2 * p) cs q) tree c b

  -- the stretch of two different shuttles
  module _ (s t : ℕ) (pair : Pair k s t) where
    pub pair_inside : pair_of k s t * (2 * p) + 2 * p ≤ length cs
    pair_inside = omega (arith, sound.within, pair_used k n p u cs sound.small sound.wide sound.some sound.whole sound.trees s t pair)

    pair_tree : tree_sound n p (stretch (2 * p) cs (pair_of k s t)) ≡ true
    pair_tree = ap (λ x. tree_sound x p (stretch (2 * p) cs (pair_of k s t))) (sym (places_all k n s t pair)) ∙ pair_sound k n p u cs sound.small sound.wide sound.some sound.whole sound.trees s t pair

    pub tree_of : (row : List ℕ) → row ≡ stretch (2 * p) cs (pair_of k s t) → Tree p row
    tree_of row is =
        rw is (tree_from n p (stretch (2 * p) cs (pair_of k s t)) (rw sound.wide (leaves_power n)) leaves_few (length_stretch (2 * p) cs (pair_of k s t) pair_inside) (omega (arith, sound.small.3)) pair_tree)

    -- its leaves from n on are empty
    leaf_past : (c : ℕ) → n ≤ c → c < p → leaf p (stretch (2 * p) cs (pair_of k s t)) c ≡ None
    leaf_past c a b =
        let row = stretch (2 * p) cs (pair_of k s t) in
        let is : get_or row (p + c) 0 ≡ 65535 = ⊎_elim (λ e. e) (λ h. absurd (omega arith)) ((sound_tells n p row pair_tree (p + c) (omega arith)).2 (omega arith)) in
        ap decoded is

    leaf_at_lem : (i : ℕ) → i < n → full_cell k n p cs s t i ≡ leaf p (stretch (2 * p) cs (pair_of k s t)) i
    leaf_at_lem i l = full_cell_at k n p cs s t i (allowed_from k n s t i (record { from_below = pair.0; to_below = pair.1; apart = pair.2; place_below = l }))

  -- the place of a cell that is allowed has a leaf
  pub place_from : (s t i : ℕ) → passed ≡ allowed k n s t i → i < p
  place_from s t i ok = omega (arith, (inside_from k n s t i (sym ok)).place_below, enough)

  pub cell_is : (s t i : ℕ) (row : List ℕ) (r : Option ℕ) → passed ≡ allowed k n s t i → row ≡ stretch (2 * p) cs (pair_of k s t) → r ≡ leaf p row i → Ok r ≡ cell_answer (tree_meaning k n p cs) s t i
  cell_is s t i row r ok is e = rw (← ok) (ap Ok (e ∙ ap (λ x. leaf p x i) is ∙ sym (full_cell_at k n p cs s t i (sym ok))))

  pub least_is : (s t i : ℕ) (row : List ℕ) (r : Option ℕ) → passed ≡ allowed k n s t i → row ≡ stretch (2 * p) cs (pair_of k s t) → r ≡ least_of (leaf p row) i p →
      Ok r ≡ least_answer (tree_meaning k n p cs) s t i
  least_is s t i row r ok is e =
      let h = inside_from k n s t i (sym ok) in
      let pair = pair_from k n s t i ok in
      let f = leaf p (stretch (2 * p) cs (pair_of k s t)) in
      let all : p ≡ n + (p - n) = omega (arith, enough) in
      let past = least_past f i n (p - n) (omega arith) (λ c a b. leaf_past s t pair c a (omega arith)) in
      rw (← ok) (ap Ok (e ∙ ap (λ x. least_of (leaf p x) i p) is ∙ ap (least_of f i) all ∙ past ∙ sym (least_like (full_cell k n p cs s t) f i n (leaf_at_lem s t pair))))

  pub last_is : (s t j : ℕ) (row : List ℕ) (r : Option ℕ) → passed ≡ allowed k n s t j → row ≡ stretch (2 * p) cs (pair_of k s t) → r ≡ last_of (leaf p row) j p →
      Ok r ≡ last_answer (tree_meaning k n p cs) s t j
  last_is s t j row r ok is e =
      let pair = pair_from k n s t j ok in
      let f = leaf p (stretch (2 * p) cs (pair_of k s t)) in
      let all : p ≡ n + (p - n) = omega (arith, enough) in
      let past = last_past f j n (p - n) (λ c a b. leaf_past s t pair c a (omega arith)) in
      rw (← ok) (ap Ok (e ∙ ap (λ x. last_of (leaf p x) j p) is ∙ ap (last_of f j) all ∙ past ∙ sym (last_like (full_cell k n p cs s t) f j n (leaf_at_lem s t pair))))

  -- a write to one cell
  module _ (s t i : ℕ) (ok : passed ≡ allowed k n s t i) where
    inside : Inside k n s t i
    inside = inside_from k n s t i (sym ok)

    pair : Pair k s t
    pair = pair_from k n s t i ok

    pub write_inside : pair_of k s t * (2 * p) + 2 * p ≤ length cs
    write_inside = pair_inside s t pair

    long : length (stretch (2 * p) cs (pair_of k s t)) ≡ 2 * p
    long = length_stretch (2 * p) cs (pair_of k s t) write_inside

    place_lt : i < p
    place_lt = place_from s t i ok

    pub write_counted : one (leaf p (stretch (2 * p) cs (pair_of k s t)) i) ≤ m
    write_counted = omega (arith, sound.counted, ap one (full_cell_at k n p cs s t i (sym ok)), filled_ge k n (full_cell k n p cs) s t i inside)

    module _ (v : Option ℕ) (fit : Fit n v) where
      new : List ℕ
      new = stored p (stretch (2 * p) cs (pair_of k s t)) i (encoded v)

      wide' : length new ≡ 2 * p
      unfolding new
      wide' = length_stored p (stretch (2 * p) cs (pair_of k s t)) i (encoded v) ∙ long

      write_cells : full_cell k n p (full_stored k p cs s t i (encoded v)) ≡ set_cell (full_cell k n p cs) s t i v
      unfolding new
      write_cells = fun_ext (λ a. fun_ext (λ b. fun_ext (λ c. at a b c)))
        where
          at : (a b c : ℕ) → full_cell k n p (full_stored k p cs s t i (encoded v)) a b c ≡ set_cell (full_cell k n p cs) s t i v a b c
          at a b c =
              ⊎_elim
              (λ yes'.
              rw (yes'.0, yes'.1, yes'.2, yes'.3)
              (full_cell_at k n p (full_stored k p cs s t i (encoded v)) s t i (sym ok)
              ∙ ap (λ x. leaf p x i) (stretch_same (2 * p) cs new (pair_of k s t) write_inside wide')
              ∙ ap decoded (stored_same p (stretch (2 * p) cs (pair_of k s t)) i (encoded v) long place_lt)
              ∙ decoded_encoded n v sound.small.3 fit))
              (λ no'.
              rw no'.0
              (⊎_elim
              (λ (bad : is_ok (allowed k n a b c) ≡ false). full_cell_none k n p (full_stored k p cs s t i (encoded v)) a b c bad ∙ sym (full_cell_none k n p cs a b c bad))
              (λ (good : allowed k n a b c ≡ passed).
              let g = inside_from k n a b c good in
              full_cell_at k n p (full_stored k p cs s t i (encoded v)) a b c good
              ∙ ⊎_elim
              (λ (e : pair_of k a b ≡ pair_of k s t).
              let ab = pair_tells k s t a b inside.to_below g.to_below e in
              ap (λ x. leaf p (stretch (2 * p) (full_stored k p cs s t i (encoded v)) x) c) e
              ∙ ap (λ x. leaf p x c) (stretch_same (2 * p) cs new (pair_of k s t) write_inside wide')
              ∙ ap decoded (stored_other p (stretch (2 * p) cs (pair_of k s t)) i (encoded v) long place_lt c (λ (x : c ≡ i). no'.1 (ab.0, ab.1, x)))
              ∙ ap (λ x. leaf p (stretch (2 * p) cs x) c) (sym e))
              (λ ne. ap (λ x. leaf p x c) (stretch_other (2 * p) cs new (pair_of k s t) write_inside wide' (pair_of k a b) ne))
              (cases_eq (pair_of k a b) (pair_of k s t))
              ∙ sym (full_cell_at k n p cs a b c good))
              (allowed_or k n a b c)))
              (same_or s t i a b c)

      write_trees : (q : ℕ) → q * (2 * p) < u → tree_sound (places k n q) p (stretch (2 * p) (full_stored k p cs s t i (encoded v)) q) ≡ true
      unfolding new
      write_trees q l =
          ⊎_elim
          (λ (e : q ≡ pair_of k s t).
          rw (e, stretch_same (2 * p) cs new (pair_of k s t) write_inside wide', places_all k n s t pair)
          (stored_sound p (stretch (2 * p) cs (pair_of k s t)) i (encoded v) long place_lt n (fit_encoded n i v inside.place_below fit) (pair_tree s t pair)))
          (λ ne. rw (stretch_other (2 * p) cs new (pair_of k s t) write_inside wide' q ne) (sound.trees q l))
          (cases_eq q (pair_of k s t))

      write_means : tree_meaning k n p (full_stored k p cs s t i (encoded v)) ≡ with_cell (tree_meaning k n p cs) s t i v
      write_means = ap (full_meaning k n) write_cells

      pub write_sound : (m' : ℕ) → m' + one (leaf p (stretch (2 * p) cs (pair_of k s t)) i) ≡ m + one v → Sound k n p u m' (full_stored k p cs s t i (encoded v))
      unfolding new
      write_sound m' more =
          let f = full_cell k n p cs in
          let after : filled_of k n (full_cell k n p (full_stored k p cs s t i (encoded v))) ≡ filled_of k n (set_cell f s t i v) = ap (filled_of k n) write_cells in
          let was = ap one (full_cell_at k n p cs s t i (sym ok)) in
          let now' : m' ≡ filled_of k n (full_cell k n p (full_stored k p cs s t i (encoded v))) = omega (arith, after, was, sound.counted, filled_set k n f s t i v inside) in
          let long' = length_with_stretch (2 * p) cs new (pair_of k s t) write_inside wide' in
          record { small = sound.small; wide = sound.wide; within = omega (arith, long', sound.within); some = sound.some; whole = sound.whole; trees = write_trees; counted = now' }

    pub put_done : (j : ℕ) → passed ≡ valued n j → passed ≡ put_answer (tree_meaning k n p cs) s t i j
    put_done j taken = rw (← ok, ← taken) (sym (room_full k n (full_cell k n p cs) (full_same k n p cs) s t i inside))

    pub put_means : (j : ℕ) → passed ≡ valued n j → tree_meaning k n p (full_stored k p cs s t i j) ≡ put_after (tree_meaning k n p cs) s t i j
    put_means j taken = rw (← put_done j taken) (write_means (Some j) (value_from n j (sym taken)))

    pub clear_means : tree_meaning k n p (full_stored k p cs s t i 65535) ≡ clear_after (tree_meaning k n p cs) s t i
    clear_means = rw (← ok) (write_means None tt)

-- a buffer whose first u numbers are wiped
module _ (k n p u : ℕ) (cs : List ℕ) (small : Small k n) (wide : p ≡ leaves_of n) (within : u ≤ length cs) (some : 1 < k → 0 < u) (whole : 0 < u → u ≡ k * k * (2 * p)) where
  front : (c : ℕ) → c < u → get_or (wiped_front u cs) c 0 ≡ 65535
  front c l = get_or_append_left (replicate {A = ℕ} u 65535) (drop u cs) 0 c (rw length-replicate l) ∙ get_or-replicate {A = ℕ} u c 65535 0 l

  -- a stretch of which one number is used is used whole
  used_whole : (q : ℕ) → q * (2 * p) < u → q * (2 * p) + 2 * p ≤ u
  used_whole q l =
      let is = whole (omega arith) in
      ⊎_elim
      (λ (a : q < k * k). omega (arith, stretch_fits (k * k) (2 * p) q a))
      (λ (a : k * k ≤ q). absurd (omega (arith, mul-le (k * k) (2 * p) q (2 * p) a (omega arith))))
      (cases_lt q (k * k))

  wiped_number : (q : ℕ) → q * (2 * p) < u → (c : ℕ) → c < 2 * p → get_or (stretch (2 * p) (wiped_front u cs) q) c 0 ≡ 65535
  wiped_number q l c b = stretch_number (2 * p) (wiped_front u cs) q c b ∙ front (q * (2 * p) + c) (omega (arith, used_whole q l))

  wiped_trees : (q : ℕ) → q * (2 * p) < u → tree_sound (places k n q) p (stretch (2 * p) (wiped_front u cs) q) ≡ true
  wiped_trees q l = blank_sound (places k n q) p (stretch (2 * p) (wiped_front u cs) q) (wiped_number q l)

  wiped_cells : full_cell k n p (wiped_front u cs) ≡ (λ s t i. None)
  wiped_cells = fun_ext (λ s. fun_ext (λ t. fun_ext (λ i. at s t i)))
    where
      at : (s t i : ℕ) → full_cell k n p (wiped_front u cs) s t i ≡ None
      at s t i =
          ⊎_elim
          (λ (bad : is_ok (allowed k n s t i) ≡ false). full_cell_none k n p (wiped_front u cs) s t i bad)
          (λ (good : allowed k n s t i ≡ passed).
          let less : i < p = omega (arith, (inside_from k n s t i good).place_below, wide, leaves_enough n) in
          let l = pair_used k n p u (wiped_front u cs) small wide some whole wiped_trees s t (pair_from k n s t i (sym good)) in
          full_cell_at k n p (wiped_front u cs) s t i good ∙ ap decoded (wiped_number (pair_of k s t) (omega arith) (p + i) (omega arith)))
          (allowed_or k n s t i)

  pub wiped_means : tree_meaning k n p (wiped_front u cs) ≡ full_meaning k n (λ s t i. None)
  wiped_means = ap (full_meaning k n) wiped_cells

  pub wiped_sound : Sound k n p u 0 (wiped_front u cs)
  wiped_sound =
      let long : u ≤ length (wiped_front u cs) = simp (length-append, length-replicate) (omega arith) in
      record { small = small; wide = wide; within = long; some = some; whole = whole; trees = wiped_trees; counted = sym (ap (filled_of k n) wiped_cells ∙ filled_none k n) }

pub check_passed : (k n l : ℕ) → full_check k n l ≡ passed → Small k n × (numbers_of k n ≤ l)
unfolding full_check
check_passed k n l e =
    let h = then_second (sizable k n) _ tt (sym e) in
    (sizable_small k n (sym (then_first (sizable k n) _ tt (sym e))), leb-true (numbers_of k n) l (unless_passed _ 9 h))

one_leaf : leaves_of 1 ≡ 1
unfolding leaves_of
one_leaf = refl

-- a table that is made
module _ (k n : ℕ) (cs : List ℕ) where
  used_some : Small k n → 0 < numbers_of k n
  used_some small = omega (arith, mul-lt 0 0 (k * k) (2 * leaves_of n) (omega (arith, mul-lt 0 0 k k small.0 small.0)) (omega (arith, small.2, leaves_enough n)))

  pub made_sound : (r : Result Unit Refusal) → r ≡ full_check k n (length cs) → Sound (if_done r 1 k) (if_done r 1 n) (if_done r 1 (leaves_of n)) (if_done r 0 (numbers_of k n)) 0 (wiped_front (if_done r 0 (numbers_of k n)) cs)
  made_sound (Ok u) e = let h = check_passed k n (length cs) (sym e) in wiped_sound k n (leaves_of n) (numbers_of k n) cs h.0 refl h.1 (λ _. used_some h.0) (λ _. refl)
  made_sound (Err x) e = wiped_sound 1 1 1 0 cs (omega arith, omega arith, omega arith, omega arith) (sym one_leaf) (omega arith) (λ l. absurd (omega arith)) (λ l. absurd (omega arith))

  pub made_means : (r : Result Unit Refusal) → r ≡ full_check k n (length cs) →
      tree_meaning (if_done r 1 k) (if_done r 1 n) (if_done r 1 (leaves_of n)) (wiped_front (if_done r 0 (numbers_of k n)) cs) ≡ if_done r (full_meaning 1 1 (λ s t i. None)) (full_meaning k n (λ s t i. None))
  made_means (Ok u) e = let h = check_passed k n (length cs) (sym e) in wiped_means k n (leaves_of n) (numbers_of k n) cs h.0 refl h.1 (λ _. used_some h.0) (λ _. refl)
  made_means (Err x) e = wiped_means 1 1 1 0 cs (omega arith, omega arith, omega arith, omega arith) (sym one_leaf) (omega arith) (λ l. absurd (omega arith)) (λ l. absurd (omega arith))

-- the leaves of the aisle that a made table has
pub made_leaves : (r : Result Unit Refusal) (n : ℕ) → leaves_of (if_done r 1 n) ≡ if_done r 1 (leaves_of n)
made_leaves (Ok u) n = refl
made_leaves (Err e) n = one_leaf

-- what is made over a lent buffer of these sizes, whatever they are called
pub made_over :
    (k n needed s m l u f : ℕ) (cs new : List ℕ) (r : Result Unit Refusal)
    → r ≡ buffer_check k n needed (length cs) → needed ≡ numbers_of k n
    → s ≡ if_done r 1 k → m ≡ if_done r 1 n → l ≡ leaves_of m → u ≡ if_done r 0 needed → f ≡ 0 → new ≡ wiped_front (if_done r 0 needed) cs
    → Sound s m l u f new
unfolding full_check
made_over k n needed s m l u f cs new r e en es em el eu ef ec =
    rw (es, el, em, eu, ef, ec, en, made_leaves r n) (made_sound k n cs r (e ∙ ap (λ x. buffer_check k n x (length cs)) en))
