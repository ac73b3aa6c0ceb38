-- The cells of a plain table and their places in the buffer.
use Rattle.std.proofs.Common.{◌≡◌, ℕ, ◌+◌, ◌-◌, ◌*◌, ◌/◌, ◌%◌, ◌<◌, ◌≤◌, true, false, ◌≢◌, List, length, get_or, drop, set, replicate, is_ok, Some, None, Ok, Err, Option, Result, sym, refl, ap, ◌∙◌, ⊎_elim, arith}
use mathlib.Core.Path.{fun_ext}
use Rattle.std.proofs.lemmas.Nat.{div-mul-add, mod-mul-add, mul-le}
use Rattle.std.proofs.lemmas.List.{get_or-replicate, get_or_append_left, get_or-set_same, get_or-set_other, length-set, length-replicate, length-append}
use Rattle.std.proofs.lemmas.Bool.Decides.{nat_tests}
use Rattle.std.proofs.lemmas.Bool.{lt-ltb, ne_eqb, cases_eq, leb-true}
use Rattle.words.specs.declared.Refusal.{Refusal}
use Rattle.words.specs.Refusals.{passed, if_done}
use Rattle.tables.specs.Meaning.{one, filled_of, with_cell, full_meaning, Small}
use Rattle.tables.specs.Answers.{allowed, valued, sizable, put_answer, put_after, clear_after}
use Rattle.words.proofs.Checks.{then_first, then_second, unless_passed}
use Rattle.tables.specs.Checked.{Inside, inside_from}
use Rattle.tables.specs.Filled.{filled_le}
use Rattle.tables.specs.Plain.{place, decoded, encoded, plain_cell, plain_meaning, tidy_at, plain_check, wiped_front}
use Rattle.tables.specs.declared.plain.Plain.{Plain}
use Rattle.tables.specs.PlainLaws.{place_lt, place_used, plain_same}
use Rattle.tables.proofs.Allowed.{allowed_or, value_from, sizable_small}
use Rattle.tables.proofs.Counting.{same_or, set_cell, filled_set, filled_ge, filled_none, room_full}

-- the place tells the pair
place_pair : (k n s t i : ℕ) → t < k → i < n → (place k n s t i / n / k ≡ s) × (place k n s t i / n % k ≡ t)
place_pair k n s t i lt li =
    let row : place k n s t i / n ≡ s * k + t = div-mul-add (s * k + t) n i li in
    (ap (λ x. x / k) row ∙ div-mul-add s k t lt, ap (λ x. x % k) row ∙ mod-mul-add s k t lt)

-- the place tells the cell
place_tells : (k n s t i a b c : ℕ) → Inside k n s t i → Inside k n a b c → place k n a b c ≡ place k n s t i → (a ≡ s) × (b ≡ t) × (c ≡ i)
place_tells k n s t i a b c h g e =
    let p = place_pair k n s t i h.to_below h.place_below in
    let q = place_pair k n a b c g.to_below g.place_below in
    let same : c ≡ i = sym (mod-mul-add (a * k + b) n c g.place_below) ∙ ap (λ x. x % n) e ∙ mod-mul-add (s * k + t) n i h.place_below in
    (sym q.0 ∙ ap (λ x. x / n / k) e ∙ p.0, sym q.1 ∙ ap (λ x. x / n % k) e ∙ p.1, same)

pub plain_cell_at : (k n : ℕ) (cs : List ℕ) (s t i : ℕ) → allowed k n s t i ≡ passed → plain_cell k n cs s t i ≡ decoded (get_or cs (place k n s t i) 0)
unfolding plain_cell
plain_cell_at k n cs s t i e = rw e

plain_cell_none : (k n : ℕ) (cs : List ℕ) (s t i : ℕ) → is_ok (allowed k n s t i) ≡ false → plain_cell k n cs s t i ≡ None
unfolding plain_cell
plain_cell_none k n cs s t i e = rw e

-- a write at a cell's place changes that cell and no other
plain_set : (k n : ℕ) (cs : List ℕ) (s t i v : ℕ) → place k n s t i < length cs → allowed k n s t i ≡ passed →
    plain_cell k n (set cs (place k n s t i) v) ≡ set_cell (plain_cell k n cs) s t i (decoded v)
plain_set k n cs s t i v lt ok = fun_ext (λ a. fun_ext (λ b. fun_ext (λ c. at a b c)))
  where
    at : (a b c : ℕ) → plain_cell k n (set cs (place k n s t i) v) a b c ≡ set_cell (plain_cell k n cs) s t i (decoded v) a b c
    at a b c =
        ⊎_elim
        (λ yes'. rw (yes'.0, yes'.1, yes'.2, yes'.3) (plain_cell_at k n (set cs (place k n s t i) v) s t i ok ∙ rw get_or-set_same))
        (λ no'.
        rw no'.0
        (⊎_elim
        (λ (bad : is_ok (allowed k n a b c) ≡ false). plain_cell_none k n (set cs (place k n s t i) v) a b c bad ∙ sym (plain_cell_none k n cs a b c bad))
        (λ (good : allowed k n a b c ≡ passed).
        let ne : place k n a b c ≢ place k n s t i = λ e. no'.1 (place_tells k n s t i a b c (inside_from k n s t i ok) (inside_from k n a b c good) e) in
        plain_cell_at k n (set cs (place k n s t i) v) a b c good ∙ rw get_or-set_other (sym (plain_cell_at k n cs a b c good)))
        (allowed_or k n a b c)))
        (same_or s t i a b c)

-- a value that a cell can hold
abbrev pub Fit : ℕ → Option ℕ → Type 0
Fit n None = Unit {0}
Fit n (Some j) = j < n

pub decoded_encoded : (n : ℕ) (v : Option ℕ) → n ≤ 4096 → Fit n v → decoded (encoded v) ≡ v
decoded_encoded n None few h = refl
decoded_encoded n (Some j) few h = grind (arith, nat_tests)

tidy_encoded : (k n s t i : ℕ) (v : Option ℕ) → n ≤ 4096 → Inside k n s t i → Fit n v → tidy_at k n (place k n s t i) (encoded v) ≡ true
tidy_encoded k n s t i None few h f = refl
tidy_encoded k n s t i (Some j) few h f =
    let p = place_pair k n s t i h.to_below h.place_below in
    rw (p.0, p.1, ne_eqb s t h.apart, lt-ltb j n f, ne_eqb j 65535 (λ e. omega arith))

-- between a shuttle and itself only 65,535 is tidy
tidy_own : (k n p v s : ℕ) → p / n / k ≡ s → p / n % k ≡ s → tidy_at k n p v ≡ true → v ≡ 65535
tidy_own k n p v s a b e = grind (arith, nat_tests)

-- what a plain table's ghost fields say, of k shuttles with n moves, u used numbers, m filled cells and the buffer
pub record Sound (k n u m : ℕ) (cs : List ℕ) : Type 0 where
  pub small : Small k n
  pub within : u ≤ length cs
  pub whole : 1 < k → u ≡ k * k * n
  pub tidy : (p : ℕ) → p < u → tidy_at k n p (get_or cs p 0) ≡ true
  pub counted : m ≡ filled_of k n (plain_cell k n cs)

pub sound_of : (x : Plain) → Sound x.lent.aisle.shuttles x.lent.aisle.moves x.lent.used x.lent.filled x.lent.cells.now
sound_of x = record { small = x.lent.small; within = x.lent.within; whole = x.whole; tidy = x.tidy; counted = x.counted }

-- the same, as it is owed after a change; the sizes and the length of the buffer are a fact of what is lent
pub owed : {k n u m : ℕ} {cs : List ℕ} → Sound k n u m cs →
    record {
      whole : 1 < k → u ≡ k * k * n;
      tidy : (p : ℕ) → p < u → tidy_at k n p (get_or cs p 0) ≡ true;
      counted : m ≡ filled_of k n (plain_cell k n cs);
    }
owed h = record { whole = h.whole; tidy = h.tidy; counted = h.counted }

module _ {k n u m : ℕ} {cs : List ℕ} (sound : Sound k n u m cs) where
  -- the count stays far below what a 32-bit number can tell
  pub filled_few : m < 2147483648
  filled_few =
      let rows : k * (k - 1) ≤ 256 = mul-le k (k - 1) 16 16 sound.small.1 (omega arith) in
      omega (arith, filled_le k n (plain_cell k n cs) (plain_same k n cs) sound.small.0, mul-le (k * (k - 1)) n 256 4096 rows sound.small.3)

  -- 65,535 stands between a shuttle and itself
  pub own_empty : (s i : ℕ) → 1 < k → s < k → i < n → get_or cs (place k n s s i) 0 ≡ 65535
  own_empty s i two ls li =
      let pair = place_pair k n s s i ls li in
      tidy_own k n (place k n s s i) (get_or cs (place k n s s i) 0) s pair.0 pair.1 (sound.tidy (place k n s s i) (omega (arith, sound.whole two, place_lt k n s s i ls ls li)))

  -- a write to one cell
  module _ (s t i : ℕ) (ok : passed ≡ allowed k n s t i) where
    inside : Inside k n s t i
    inside = inside_from k n s t i (sym ok)

    pub place_inside : place k n s t i < length cs
    place_inside = omega (arith, place_used k n u cs sound.small sound.whole sound.tidy s t i inside)

    cell_is : decoded (get_or cs (place k n s t i) 0) ≡ plain_cell k n cs s t i
    cell_is = sym (plain_cell_at k n cs s t i (sym ok))

    pub write_counted : one (decoded (get_or cs (place k n s t i) 0)) ≤ m
    write_counted = omega (arith, ap one cell_is, filled_ge k n (plain_cell k n cs) s t i inside)

    write_cells : (v : Option ℕ) → Fit n v → plain_cell k n (set cs (place k n s t i) (encoded v)) ≡ set_cell (plain_cell k n cs) s t i v
    write_cells v fit = plain_set k n cs s t i (encoded v) place_inside (sym ok) ∙ ap (set_cell (plain_cell k n cs) s t i) (decoded_encoded n v sound.small.3 fit)

    write_means : (v : Option ℕ) → Fit n v → plain_meaning k n (set cs (place k n s t i) (encoded v)) ≡ with_cell (plain_meaning k n cs) s t i v
    write_means v fit = ap (full_meaning k n) (write_cells v fit)

    write_tidy : (v : Option ℕ) → Fit n v → (p : ℕ) → p < u → tidy_at k n p (get_or (set cs (place k n s t i) (encoded v)) p 0) ≡ true
    write_tidy v fit p l =
        ⊎_elim
        (λ (e : p ≡ place k n s t i). rw e (ap (tidy_at k n (place k n s t i)) (get_or-set_same cs (place k n s t i) (encoded v) 0 place_inside) ∙ tidy_encoded k n s t i v sound.small.3 inside fit))
        (λ ne. ap (tidy_at k n p) (get_or-set_other cs (place k n s t i) p (encoded v) 0 ne) ∙ sound.tidy p l)
        (cases_eq p (place k n s t i))

    pub write_sound : (v : Option ℕ) → Fit n v → (m' : ℕ) → m' + one (decoded (get_or cs (place k n s t i) 0)) ≡ m + one v → Sound k n u m' (set cs (place k n s t i) (encoded v))
    write_sound v fit m' more =
        let f = plain_cell k n cs in
        let after : filled_of k n (plain_cell k n (set cs (place k n s t i) (encoded v))) ≡ filled_of k n (set_cell f s t i v) = ap (filled_of k n) (write_cells v fit) in
        let now' : m' ≡ filled_of k n (plain_cell k n (set cs (place k n s t i) (encoded v))) = omega (arith, after, ap one cell_is, filled_set k n f s t i v inside) in
        record { small = sound.small; within = simp length-set sound.within; whole = sound.whole; tidy = write_tidy v fit; counted = now' }

    pub put_done : (j : ℕ) → passed ≡ valued n j → passed ≡ put_answer (plain_meaning k n cs) s t i j
    put_done j fits = rw (← ok, ← fits) (sym (room_full k n (plain_cell k n cs) (plain_same k n cs) s t i inside))

    pub put_means : (j : ℕ) → passed ≡ valued n j → plain_meaning k n (set cs (place k n s t i) j) ≡ put_after (plain_meaning k n cs) s t i j
    put_means j fits = rw (← put_done j fits) (write_means (Some j) (value_from n j (sym fits)))

    pub clear_means : plain_meaning k n (set cs (place k n s t i) 65535) ≡ clear_after (plain_meaning k n cs) s t i
    clear_means = rw (← ok) (write_means None tt)

-- a buffer whose first u numbers are wiped
module _ (k n u : ℕ) (cs : List ℕ) (small : Small k n) (within : u ≤ length cs) (whole : 1 < k → u ≡ k * k * n) where
  front : (p : ℕ) → p < u → get_or (wiped_front u cs) p 0 ≡ 65535
  front p l = get_or_append_left (replicate {A = ℕ} u 65535) (drop u cs) 0 p (rw length-replicate l) ∙ get_or-replicate {A = ℕ} u p 65535 0 l

  wiped_tidy : (p : ℕ) → p < u → tidy_at k n p (get_or (wiped_front u cs) p 0) ≡ true
  wiped_tidy p l = rw (front p l)

  wiped_cells : plain_cell k n (wiped_front u cs) ≡ (λ s t i. None)
  wiped_cells = fun_ext (λ s. fun_ext (λ t. fun_ext (λ i. at s t i)))
    where
      at : (s t i : ℕ) → plain_cell k n (wiped_front u cs) s t i ≡ None
      at s t i =
          ⊎_elim
          (λ (bad : is_ok (allowed k n s t i) ≡ false). plain_cell_none k n (wiped_front u cs) s t i bad)
          (λ (good : allowed k n s t i ≡ passed).
          let l = place_used k n u (wiped_front u cs) small whole wiped_tidy s t i (inside_from k n s t i good) in
          plain_cell_at k n (wiped_front u cs) s t i good ∙ ap decoded (front (place k n s t i) l))
          (allowed_or k n s t i)

  pub wiped_means : plain_meaning k n (wiped_front u cs) ≡ full_meaning k n (λ s t i. None)
  wiped_means = ap (full_meaning k n) wiped_cells

  pub wiped_sound : Sound k n u 0 (wiped_front u cs)
  wiped_sound =
      let long : u ≤ length (wiped_front u cs) = simp (length-append, length-replicate) (omega arith) in
      record { small = small; within = long; whole = whole; tidy = wiped_tidy; counted = sym (ap (filled_of k n) wiped_cells ∙ filled_none k n) }

pub check_passed : (k n l : ℕ) → plain_check k n l ≡ passed → Small k n × (k * k * n ≤ l)
unfolding plain_check
check_passed k n l e =
    let p = then_second (sizable k n) _ tt (sym e) in
    (sizable_small k n (sym (then_first (sizable k n) _ tt (sym e))), leb-true (k * k * n) l (unless_passed _ 9 p))

-- a table that is made
module _ (k n : ℕ) (cs : List ℕ) where
  pub made_sound : (r : Result Unit Refusal) → r ≡ plain_check k n (length cs) → Sound (if_done r 1 k) (if_done r 1 n) (if_done r 0 (k * k * n)) 0 (wiped_front (if_done r 0 (k * k * n)) cs)
  made_sound (Ok u) e = let h = check_passed k n (length cs) (sym e) in wiped_sound k n (k * k * n) cs h.0 h.1 (λ _. refl)
  made_sound (Err x) e = wiped_sound 1 1 0 cs (omega arith, omega arith, omega arith, omega arith) (omega arith) (λ l. absurd (omega arith))

  pub made_means : (r : Result Unit Refusal) → r ≡ plain_check k n (length cs) →
      plain_meaning (if_done r 1 k) (if_done r 1 n) (wiped_front (if_done r 0 (k * k * n)) cs) ≡ if_done r (full_meaning 1 1 (λ s t i. None)) (full_meaning k n (λ s t i. None))
  made_means (Ok u) e = let h = check_passed k n (length cs) (sym e) in wiped_means k n (k * k * n) cs h.0 h.1 (λ _. refl)
  made_means (Err x) e = wiped_means 1 1 0 cs (omega arith, omega arith, omega arith, omega arith) (omega arith) (λ l. absurd (omega arith))
