-- How the count of the filled cells changes with one cell.
use Rattle.std.proofs.Common.{◌≡◌, ℕ, zero, suc, ◌+◌, ◌-◌, ◌*◌, ◌<◌, ◌≤◌, true, false, cond, eqb, ◌≢◌, ◌⊎◌, Some, None, Option, refl, ap, inl, inr, ⊎_elim, mul_assoc, mul-zero, mul-one, arith}
use mathlib.Core.Path.{fun_ext}
use Rattle.std.proofs.lemmas.Bool.Decides.{nat_tests}
use Rattle.std.proofs.lemmas.Bool.{cases_lt, cases_Bool, lt-ltb, eq-eqb, ne_eqb}
use Rattle.words.specs.Refusals.{passed}
use Rattle.tables.specs.Meaning.{sum_below, one, filled_of, same_cell, full_meaning}
use Rattle.tables.specs.Answers.{room}
use Rattle.tables.specs.Sums.{sum_mono, sum_same, sum_but}
use Rattle.tables.specs.Checked.{Inside}
use Rattle.tables.specs.Filled.{one_le, pred_mul, pair_le, row_le}

-- where one of the summands is smaller by d
sum_mono_at : (n : ℕ) (f g : ℕ → ℕ) (p d : ℕ) → p < n → f p + d ≤ g p → ((i : ℕ) → i < n → f i ≤ g i) → sum_below n f + d ≤ sum_below n g
sum_mono_at zero f g p d l e h = omega arith
sum_mono_at (suc n) f g p d l e h =
    ⊎_elim
    (λ (less : p < n). omega (arith, sum_mono_at n f g p d less e (λ i l. h i (omega arith)), h n (omega arith)))
    (λ (more : n ≤ p).
    let at : p ≡ n = omega arith in
    let e' : f n + d ≤ g n = rw at at e in
    omega (arith, sum_mono n f g (λ i l. h i (omega arith))))
    (cases_lt p n)

sum_like : (n : ℕ) (f g : ℕ → ℕ) → ((i : ℕ) → i < n → g i ≡ f i) → sum_below n g ≡ sum_below n f
sum_like zero f g same = refl
sum_like (suc n) f g same = omega (arith, sum_like n f g (λ i l. same i (omega arith)), same n (omega arith))

-- one summand changes
sum_set : (n : ℕ) (f g : ℕ → ℕ) (p : ℕ) → p < n → ((i : ℕ) → i ≢ p → g i ≡ f i) → sum_below n g + f p ≡ sum_below n f + g p
sum_set zero f g p l same = absurd (omega arith)
sum_set (suc n) f g p l same =
    ⊎_elim
    (λ (b : p < n). omega (arith, sum_set n f g p b same, same n (λ e. omega arith)))
    (λ (b : n ≤ p).
    let at' : p ≡ n = omega arith in
    let e : sum_below n g ≡ sum_below n f = sum_like n f g (λ i l. same i (λ q. omega arith)) in
    rw at' (omega (arith, e)))
    (cases_lt p n)

-- whether two cells are one
pub same_or : (s t i a b c : ℕ) → ((same_cell s t i a b c ≡ true) × (a ≡ s) × (b ≡ t) × (c ≡ i)) ⊎ ((same_cell s t i a b c ≡ false) × ((a ≡ s) × (b ≡ t) × (c ≡ i) → ⊥))
same_or s t i a b c =
    ⊎_elim
    (λ (e : same_cell s t i a b c ≡ true). inl (e, grind (arith, nat_tests), grind (arith, nat_tests), grind (arith, nat_tests)))
    (λ (e : same_cell s t i a b c ≡ false). inr (e, λ p. grind (arith, nat_tests)))
    (cases_Bool (same_cell s t i a b c))

-- the cells f with one set to o
abbrev pub set_cell : (ℕ → ℕ → ℕ → Option ℕ) → (s t i : ℕ) → Option ℕ → (ℕ → ℕ → ℕ → Option ℕ)
set_cell f s t i o = λ a b c. cond (same_cell s t i a b c) o (f a b c)

-- how many cells are filled after one is set: as many more as that cell holds more
pub filled_set : (k n : ℕ) (f : ℕ → ℕ → ℕ → Option ℕ) (s t i : ℕ) (o : Option ℕ) → Inside k n s t i → filled_of k n (set_cell f s t i o) + one (f s t i) ≡ filled_of k n f + one o
unfolding filled_of
filled_set k n f s t i o h =
    let g = set_cell f s t i o in
    let cell_at : g s t i ≡ o = rw (eq-eqb s s refl, eq-eqb t t refl, eq-eqb i i refl) in
    let cells : sum_below n (λ c. one (g s t c)) + one (f s t i) ≡ sum_below n (λ c. one (f s t c)) + one (g s t i) =
    sum_set n (λ c. one (f s t c)) (λ c. one (g s t c)) i h.place_below (λ c ne. rw (eq-eqb s s refl, eq-eqb t t refl, ne_eqb c i ne)) in
    let rows : sum_below k (λ b. sum_below n (λ c. one (g s b c))) + sum_below n (λ c. one (f s t c)) ≡ sum_below k (λ b. sum_below n (λ c. one (f s b c))) + sum_below n (λ c. one (g s t c)) =
    sum_set k (λ b. sum_below n (λ c. one (f s b c))) (λ b. sum_below n (λ c. one (g s b c))) t h.to_below (λ b ne. ap (sum_below n) (fun_ext (λ c. rw (eq-eqb s s refl, ne_eqb b t ne)))) in
    let all : sum_below k (λ a. sum_below k (λ b. sum_below n (λ c. one (g a b c)))) + sum_below k (λ b. sum_below n (λ c. one (f s b c))) ≡ sum_below k (λ a. sum_below k (λ b. sum_below n (λ c. one (f a b c)))) + sum_below k (λ b. sum_below n (λ c. one (g s b c))) =
    sum_set k (λ a. sum_below k (λ b. sum_below n (λ c. one (f a b c)))) (λ a. sum_below k (λ b. sum_below n (λ c. one (g a b c)))) s h.from_below (λ a ne. ap (sum_below k) (fun_ext (λ b. ap (sum_below n) (fun_ext (λ c. rw (ne_eqb a s ne)))))) in
    omega (arith, all, rows, cells, ap one cell_at)

-- tables with the same cells have as many filled
filled_like : (k n : ℕ) (f g : ℕ → ℕ → ℕ → Option ℕ) → ((a b c : ℕ) → a < k → b < k → c < n → g a b c ≡ f a b c) → filled_of k n g ≡ filled_of k n f
unfolding filled_of
filled_like k n f g same =
    sum_like k (λ a. sum_below k (λ b. sum_below n (λ c. one (f a b c)))) (λ a. sum_below k (λ b. sum_below n (λ c. one (g a b c)))) (λ a la.
    sum_like k (λ b. sum_below n (λ c. one (f a b c))) (λ b. sum_below n (λ c. one (g a b c))) (λ b lb. sum_like n (λ c. one (f a b c)) (λ c. one (g a b c)) (λ c lc. ap one (same a b c la lb lc))))

-- one cell more is filled at most, wherever it lies
pub filled_more : (k n : ℕ) (f : ℕ → ℕ → ℕ → Option ℕ) (s t i : ℕ) (o : Option ℕ) → (s ≡ t → ⊥) → filled_of k n (set_cell f s t i o) ≤ filled_of k n f + 1
filled_more k n f s t i o apart =
    ⊎_elim
    (λ (ls : s < k).
    ⊎_elim
    (λ (lt : t < k).
    ⊎_elim
    (λ (li : i < n). omega (arith, filled_set k n f s t i o (record { from_below = ls; to_below = lt; apart = apart; place_below = li }), one_le o))
    (λ (li : n ≤ i). off (λ a b c la lb lc e. omega arith))
    (cases_lt i n))
    (λ (lt : k ≤ t). off (λ a b c la lb lc e. omega arith))
    (cases_lt t k))
    (λ (ls : k ≤ s). off (λ a b c la lb lc e. omega arith))
    (cases_lt s k)
  where
    -- the cell is none of the table's
    off : ((a b c : ℕ) → a < k → b < k → c < n → (a ≡ s) × (b ≡ t) × (c ≡ i) → ⊥) → filled_of k n (set_cell f s t i o) ≤ filled_of k n f + 1
    off out =
        let like = filled_like k n f (set_cell f s t i o) (λ a b c la lb lc. ⊎_elim (λ yes'. absurd (out a b c la lb lc (yes'.1, yes'.2, yes'.3))) (λ no'. rw no'.0) (same_or s t i a b c)) in
        omega (arith, like)

-- a filled cell is counted
pub filled_ge : (k n : ℕ) (f : ℕ → ℕ → ℕ → Option ℕ) (s t i : ℕ) → Inside k n s t i → one (f s t i) ≤ filled_of k n f
filled_ge k n f s t i h = omega (arith, filled_set k n f s t i None h)

-- no cell is filled
pub filled_none : (k n : ℕ) → filled_of k n (λ s t i. None) ≡ 0
unfolding filled_of
filled_none k n =
    let rows : sum_below k (λ t. sum_below n (λ i. 0)) ≤ sum_below k (λ t. 0) = sum_mono k (λ t. sum_below n (λ i. 0)) (λ t. 0) (λ t l. omega (arith, sum_same n 0, mul-zero n)) in
    omega (arith, sum_mono k (λ s. sum_below k (λ t. sum_below n (λ i. 0))) (λ s. 0) (λ s l. omega (arith, rows, sum_same k 0, mul-zero k)), sum_same k 0, mul-zero k)

-- with an empty cell between different shuttles there is room for one more
pub filled_lt : (k n : ℕ) (f : ℕ → ℕ → ℕ → Option ℕ) → ((s i : ℕ) → f s s i ≡ None) → (s t i : ℕ) → Inside k n s t i → f s t i ≡ None → filled_of k n f < k * (k - 1) * n
unfolding filled_of
filled_lt k n f same s t i h e =
    let some : 0 < k = omega arith in
    let z : one (f s t i) ≡ 0 = ap one e in
    let apart : eqb s t ≡ false = ne_eqb s t h.apart in
    let cells : sum_below n (λ i. one (f s t i)) + 1 ≤ n =
    omega (arith, sum_mono_at n (λ i. one (f s t i)) (λ _. 1) i 1 h.place_below (omega arith) (λ i l. one_le (f s t i)), sum_same n 1, mul-one n) in
    let here : sum_below n (λ i. one (f s t i)) + 1 ≤ cond (eqb s t) 0 n = rw apart cells in
    let row : sum_below k (λ t. sum_below n (λ i. one (f s t i))) + 1 ≤ (k - 1) * n =
    omega (arith, sum_mono_at k (λ t. sum_below n (λ i. one (f s t i))) (λ t. cond (eqb s t) 0 n) t 1 h.to_below here (λ t _. pair_le k n f same some s t), sum_but k s n h.from_below, pred_mul k n some) in
    omega (arith, sum_mono_at k (λ s. sum_below k (λ t. sum_below n (λ i. one (f s t i)))) (λ _. (k - 1) * n) s 1 h.from_below row (row_le k n f same some), sum_same k ((k - 1) * n), mul_assoc k (k - 1) n)

-- so a table that can fill every cell refuses none for want of room
pub room_full : (k n : ℕ) (f : ℕ → ℕ → ℕ → Option ℕ) → ((s i : ℕ) → f s s i ≡ None) → (s t i : ℕ) → Inside k n s t i → room (full_meaning k n f) (f s t i) ≡ passed
room_full k n f same s t i h = go (f s t i) refl
  where
    go : (o : Option ℕ) → f s t i ≡ o → room (full_meaning k n f) o ≡ passed
    go (Some x) e = refl
    go None e = rw (lt-ltb _ _ (filled_lt k n f same s t i h e))
