-- A write to one leaf, and the way up that mends the numbers above it.
use Rattle.std.proofs.Common.{◌≡◌, ℕ, zero, suc, ◌+◌, ◌*◌, ◌/◌, ◌<◌, ◌≤◌, min, true, cond, ◌&&◌, ◌||◌, eqb, ltb, ◌≢◌, ◌⊎◌, List, length, get_or, set, Decides, sym, refl, ap, ◌∙◌, inl, inr, ⊎_elim, arith}
use Rattle.std.proofs.lemmas.List.{get_or-set_same, get_or-set_other, length-set}
use Rattle.std.proofs.lemmas.Bool.Decides.{nat_tests, Decides-below_and}
use Rattle.std.proofs.lemmas.Bool.{cases_eq, cases_lt, le-leb, lt-leb}
use Rattle.fulltree.specs.Leaves.{Power}
use Rattle.fulltree.specs.Tree.{lower, right_at, all_below, tree_sound, Tree, mended, stored}

-- one step up
mended_turn : (f q : ℕ) (row : List ℕ) → 1 < q → mended (suc f) q row ≡ mended f (q / 2) (set row (q / 2) (lower row (q / 2)))
mended_turn f q row l = rw (lt-leb q 1 l)

pub mended_top : (f q : ℕ) (row : List ℕ) → q ≤ 1 → mended f q row ≡ row
mended_top zero q row l = refl
mended_top (suc f) q row l = rw (le-leb q 1 l)

-- more steps than the way has change nothing
mended_enough : (f g q : ℕ) (row : List ℕ) → q ≤ f → q ≤ g → mended f q row ≡ mended g q row
mended_enough zero g q row a b = sym (mended_top g q row (omega arith))
mended_enough (suc f) zero q row a b = mended_top (suc f) q row (omega arith)
mended_enough (suc f) (suc g) q row a b =
    ⊎_elim
    (λ (l : q ≤ 1). mended_top (suc f) q row l ∙ sym (mended_top (suc g) q row l))
    (λ (l : 1 < q). mended_turn f q row l ∙ mended_enough f g (q / 2) (set row (q / 2) (lower row (q / 2))) (omega arith) (omega arith) ∙ sym (mended_turn g q row l))
    (⊎_elim inr inl (cases_lt 1 q))

pub mended_step : (q : ℕ) (row : List ℕ) → 1 < q → mended q q row ≡ mended (q / 2) (q / 2) (set row (q / 2) (lower row (q / 2)))
mended_step zero row l = absurd (omega arith)
mended_step (suc f) row l =
    let h = suc f / 2 in
    mended_turn f (suc f) row l ∙ mended_enough f h h (set row h (lower row h)) (omega arith) (omega arith)

-- what the test of a tree tells, number by number
abbrev pub Right : (m p : ℕ) → List ℕ → ℕ → Type 0
Right m p row q = (q ≡ 0 → q < p → get_or row q 0 ≡ 65535) × (0 < q → q < p → get_or row q 0 ≡ lower row q) × (p ≤ q → (get_or row q 0 ≡ 65535) ⊎ ((q < p + m) × (get_or row q 0 < m)))

right_says : (m p : ℕ) (row : List ℕ) (q : ℕ) → Decides (right_at m p row q) (Right m p row q)
right_says m p row q = (
  (λ e. ((λ a b. grind (arith, nat_tests)), (λ a b. grind (arith, nat_tests)), (λ a. grind (arith, nat_tests)))),
  (λ h. back (get_or row q 0) (lower row q) h.0 h.1 h.2),
)
  where
    back : (v x : ℕ) → (q ≡ 0 → q < p → v ≡ 65535) → (0 < q → q < p → v ≡ x) → (p ≤ q → (v ≡ 65535) ⊎ ((q < p + m) × (v < m))) →
        cond (ltb q p) (cond (eqb q 0) (eqb v 65535) (eqb v x)) (eqb v 65535 || (ltb q (p + m) && ltb v m)) ≡ true
    back v x a b c = grind (arith, nat_tests)

sound_says : (m p : ℕ) (row : List ℕ) (w : ℕ) → Decides (all_below (right_at m p row) w) ((q : ℕ) → q < w → Right m p row q)
sound_says m p row w = Decides-below_and (right_at m p row) (Right m p row) (all_below (right_at m p row)) (right_says m p row) refl (λ _. refl) w

pub sound_tells : (m p : ℕ) (row : List ℕ) → tree_sound m p row ≡ true → (q : ℕ) → q < 2 * p → Right m p row q
unfolding tree_sound
sound_tells m p row = (sound_says m p row (2 * p)).0

pub sound_from : (m p : ℕ) (row : List ℕ) → ((q : ℕ) → q < 2 * p → Right m p row q) → tree_sound m p row ≡ true
unfolding tree_sound
sound_from m p row = (sound_says m p row (2 * p)).1

-- a write elsewhere leaves a number right
right_kept : (m p : ℕ) (row : List ℕ) (h x c : ℕ) → c ≢ h → (0 < c → 2 * c ≢ h) → (0 < c → 2 * c + 1 ≢ h) → Right m p row c → Right m p (set row h x) c
right_kept m p row h x c a b d r =
    let same = get_or-set_other row h c x 0 a in (
      (λ e l. same ∙ r.0 e l),
      (λ s l. same ∙ r.1 s l ∙ sym (rw (get_or-set_other row h (2 * c) x 0 (b s), get_or-set_other row h (2 * c + 1) x 0 (d s)))),
      (λ l. rw same (r.2 l)),
    )

-- each number is right, but the one above the last that was written, h
abbrev RightBut : (m p : ℕ) → List ℕ → ℕ → Type 0
RightBut m p row h = (q : ℕ) → q < 2 * p → (q ≡ h → q ≡ 0) → Right m p row q

-- one number is mended, and the one above it is the next
mend_one : (m p : ℕ) (row : List ℕ) (h : ℕ) → 0 < h → h < p → length row ≡ 2 * p → RightBut m p row h → RightBut m p (set row h (lower row h)) (h / 2)
mend_one m p row h some few long but c l ne =
    let x = lower row h in
    ⊎_elim
    (λ (e : c ≡ h).
    let lower_same : lower (set row h x) h ≡ x = rw (get_or-set_other row h (2 * h) x 0 (omega arith), get_or-set_other row h (2 * h + 1) x 0 (omega arith)) in
    rw e ((λ z b. absurd (omega arith)), (λ a b. get_or-set_same row h x 0 (omega arith) ∙ sym lower_same), (λ b. absurd (omega arith))))
    (λ (other : c ≢ h).
    right_kept m p row h x c other (λ s e. absurd (omega (arith, ne (omega arith)))) (λ s e. absurd (omega (arith, ne (omega arith)))) (but c l (λ e. absurd (other e))))
    (cases_eq c h)

mended_right : (m p f q : ℕ) (row : List ℕ) → 0 < q → q < 2 * p → q ≤ f → length row ≡ 2 * p → RightBut m p row (q / 2) → (c : ℕ) → c < 2 * p → Right m p (mended f q row) c
mended_right m p zero q row some few fuel long but c l = absurd (omega arith)
mended_right m p (suc f) q row some few fuel long but c l =
    ⊎_elim
    (λ (more : 1 < q).
    let h = q / 2 in
    rw (mended_turn f q row more)
    (mended_right m p f h (set row h (lower row h)) (omega arith) (omega arith) (omega arith) (length-set row h (lower row h) ∙ long) (mend_one m p row h (omega arith) (omega arith) long but) c l))
    (λ (top : q ≤ 1). rw (mended_top (suc f) q row top) (but c l (λ e. omega arith)))
    (cases_lt 1 q)

pub length_mended : (f q : ℕ) (row : List ℕ) → length (mended f q row) ≡ length row
length_mended zero q row = refl
length_mended (suc f) q row =
    ⊎_elim
    (λ (more : 1 < q). rw (mended_turn f q row more) (length_mended f (q / 2) (set row (q / 2) (lower row (q / 2))) ∙ length-set row (q / 2) (lower row (q / 2))))
    (λ (top : q ≤ 1). ap length (mended_top (suc f) q row top))
    (cases_lt 1 q)

-- the leaves stay
mended_leaf : (p f q : ℕ) (row : List ℕ) (c : ℕ) → q < 2 * p → p ≤ c → get_or (mended f q row) c 0 ≡ get_or row c 0
mended_leaf p zero q row c few l = refl
mended_leaf p (suc f) q row c few l =
    ⊎_elim
    (λ (more : 1 < q).
    let h = q / 2 in
    let x = lower row h in
    rw (mended_turn f q row more) (mended_leaf p f h (set row h x) c (omega arith) l ∙ get_or-set_other row h c x 0 (omega arith)))
    (λ (top : q ≤ 1). ap (λ r. get_or r c 0) (mended_top (suc f) q row top))
    (cases_lt 1 q)

pub length_stored : (p : ℕ) (row : List ℕ) (i v : ℕ) → length (stored p row i v) ≡ length row
unfolding stored
length_stored p row i v = length_mended (p + i) (p + i) (set row (p + i) v) ∙ length-set row (p + i) v

module _ (p : ℕ) (row : List ℕ) (i v : ℕ) (long : length row ≡ 2 * p) (l : i < p) where
  pub stored_same : get_or (stored p row i v) (p + i) 0 ≡ v
  unfolding stored
  stored_same = mended_leaf p (p + i) (p + i) (set row (p + i) v) (p + i) (omega arith) (omega arith) ∙ get_or-set_same row (p + i) v 0 (omega arith)

  pub stored_other : (c : ℕ) → c ≢ i → get_or (stored p row i v) (p + c) 0 ≡ get_or row (p + c) 0
  unfolding stored
  stored_other c ne = mended_leaf p (p + i) (p + i) (set row (p + i) v) (p + c) (omega arith) (omega arith) ∙ get_or-set_other row (p + i) (p + c) v 0 (λ e. ne (omega arith))

  pub stored_sound : (m : ℕ) → (v ≡ 65535) ⊎ ((i < m) × (v < m)) → tree_sound m p row ≡ true → tree_sound m p (stored p row i v) ≡ true
  unfolding stored
  stored_sound m fit sound = sound_from m p (mended (p + i) (p + i) (set row (p + i) v)) (mended_right m p (p + i) (p + i) (set row (p + i) v) (omega arith) (omega arith) (omega arith) (length-set row (p + i) v ∙ long) begun)
    where
      begun : RightBut m p (set row (p + i) v) ((p + i) / 2)
      begun c few ne =
          ⊎_elim
          (λ (e : c ≡ p + i).
          let is = get_or-set_same row (p + i) v 0 (omega arith) in
          rw e ((λ z b. absurd (omega arith)), (λ a b. absurd (omega arith)), (λ b. rw is (⊎_elim inl (λ (h : (i < m) × (v < m)). inr (omega arith, h.1)) fit))))
          (λ (other : c ≢ p + i).
          right_kept m p row (p + i) v c other (λ s e. absurd (omega (arith, ne (omega arith)))) (λ s e. absurd (omega (arith, ne (omega arith)))) (sound_tells m p row sound c few))
          (cases_eq c (p + i))

-- a row of nothing but 65,535 is a tree with no value
pub blank_sound : (m p : ℕ) (row : List ℕ) → ((c : ℕ) → c < 2 * p → get_or row c 0 ≡ 65535) → tree_sound m p row ≡ true
blank_sound m p row blank = sound_from m p row (λ q l. (
  (λ e b. blank q l),
  (λ s b. rw (blank q l, blank (2 * q) (omega arith), blank (2 * q + 1) (omega arith))),
  (λ b. inl (blank q l)),
))

-- what holds of each leaf, and of the smaller of two of which it holds, holds of each number of a tree
module _ (p : ℕ) (row : List ℕ) (P : ℕ → Type 0) (leaves : (c : ℕ) → p ≤ c → c < 2 * p → P (get_or row c 0)) (two : (a b : ℕ) → P a → P b → P (min a b))
    (inner : (q : ℕ) → 0 < q → q < p → get_or row q 0 ≡ lower row q) where
  by_steps : (f q : ℕ) → 0 < q → q < 2 * p → 2 * p ≤ q + f → P (get_or row q 0)
  by_steps zero q some l fuel = absurd (omega arith)
  by_steps (suc f) q some l fuel =
      ⊎_elim
      (λ (b : q < p). rw (inner q some b) (two (get_or row (2 * q) 0) (get_or row (2 * q + 1) 0) (by_steps f (2 * q) (omega arith) (omega arith) (omega arith)) (by_steps f (2 * q + 1) (omega arith) (omega arith) (omega arith))))
      (λ (b : p ≤ q). leaves q b l)
      (cases_lt q p)

  pub each_number : (q : ℕ) → 0 < q → q < 2 * p → P (get_or row q 0)
  each_number q some l = by_steps (2 * p) q some l (omega arith)

-- in a tree for no place each number is 65,535
pub own_empty : (p : ℕ) (row : List ℕ) → tree_sound 0 p row ≡ true → (q : ℕ) → q < 2 * p → get_or row q 0 ≡ 65535
own_empty p row sound q l =
    let right = sound_tells 0 p row sound in
    ⊎_elim
    (λ (z : q ≡ 0). (right q l).0 z (omega arith))
    (λ (ne : q ≢ 0).
    each_number p row (λ v. v ≡ 65535)
    (λ c a b. ⊎_elim (λ e. e) (λ h. absurd (omega arith)) ((right c b).2 a))
    (λ a b x y. rw (x, y))
    (λ c s b. (right c (omega arith)).1 s b)
    q (omega arith) l)
    (cases_eq q 0)

pub tree_from : (m p : ℕ) (row : List ℕ) → Power p → p < 65536 → length row ≡ 2 * p → m ≤ 65535 → tree_sound m p row ≡ true → Tree p row
tree_from m p row power few long le sound =
    let right = sound_tells m p row sound in
    let inner : (q : ℕ) → 0 < q → q < p → get_or row q 0 ≡ lower row q = λ q s l. (right q (omega arith)).1 s l in
    record {
      power = power;
      few = few;
      long = long;
      inner = inner;
      small = each_number p row (λ v. v ≤ 65535)
          (λ c a b. ⊎_elim (λ e. omega arith) (λ h. omega arith) ((right c b).2 a))
          (λ a b x y. omega arith)
          inner;
    }
