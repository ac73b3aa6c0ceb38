-- A plain table's meaning is lawful.
use Rattle.std.specs.Prelude.{◌≡◌, ℕ, ◌+◌, ◌*◌, ◌/◌, ◌%◌, ◌<◌, Bool, true, false, cond, List, is_ok, Some, None, Ok, Err, Option, Result, ◌==◌, ◌≢◌, nat_lt, slice_index, refl}
use Rattle.std.proofs.Common.{arith, ltb-true}
use Rattle.std.proofs.lemmas.Nat.{mul-add-lt}
use Rattle.words.specs.declared.Refusal.{Refusal}
use Rattle.words.specs.Refusals.{passed}
use Rattle.tables.specs.Meaning.{Lawful, Small}
use Rattle.tables.specs.Answers.{allowed}
use Rattle.tables.specs.Checked.{Inside, inside_from}
use Rattle.tables.specs.Filled.{filled_le}
use Rattle.tables.specs.Plain.{place, decoded, plain_cell, plain_meaning, tidy_at}

-- the place of a cell lies within the first k * k * n numbers
pub place_lt : (k n s t i : ℕ) → s < k → t < k → i < n → place k n s t i < k * k * n
place_lt k n s t i ls lt li =
    let row : s * k + t < k * k = mul-add-lt s k t k ls lt in
    omega (arith, mul-add-lt (s * k + t) n i (k * k) row li)

-- a filled cell is allowed, and a number stands for what it holds
pub held : (r : Result Unit Refusal) (o : Option ℕ) (j : ℕ) → cond (is_ok r) o None ≡ Some j → (r ≡ passed) × (o ≡ Some j)
held (Ok u) o j e = (refl, e)
held (Err x) o j e = let z : ◌≡◌ {A = ℕ} 0 1 = cc in absurd (omega arith)

plain_held : (k n : ℕ) (cs : List ℕ) (s t i j : ℕ) → plain_cell k n cs s t i ≡ Some j → (allowed k n s t i ≡ passed) × (decoded (slice_index cs (place k n s t i)) ≡ Some j)
unfolding plain_cell
plain_held k n cs s t i j e = held (allowed k n s t i) (decoded (slice_index cs (place k n s t i))) j e

tidy_below : (k n p v j : ℕ) → tidy_at k n p v ≡ true → decoded v ≡ Some j → j < n
tidy_below k n p v j e d = empty_or (v == 65535) e d
  where
    apart_or : (c : Bool) → cond c false (nat_lt v n) ≡ true → v < n
    apart_or true a = let z : ◌≡◌ {A = ℕ} 0 1 = cc in absurd (omega arith)
    apart_or false a = ltb-true v n a

    empty_or : (b : Bool) → cond b true (cond (p / n / k == p / n % k) false (nat_lt v n)) ≡ true → cond b None (Some v) ≡ Some j → j < n
    empty_or true a o = let z : ◌≡◌ {A = ℕ} 0 1 = cc in absurd (omega arith)
    empty_or false a o = let s : v ≡ j = cc in omega (arith, apart_or (p / n / k == p / n % k) a)

pub plain_same : (k n : ℕ) (cs : List ℕ) (s i : ℕ) → plain_cell k n cs s s i ≡ None
plain_same k n cs s i = go (plain_cell k n cs s s i) refl
  where
    go : (o : Option ℕ) → plain_cell k n cs s s i ≡ o → o ≡ None
    go None e = refl
    go (Some j) e = absurd ((inside_from k n s s i (plain_held k n cs s s i j e).0).apart refl)

module _ (k n u : ℕ) (cs : List ℕ) (small : Small k n) (whole : 1 < k → u ≡ k * k * n) (tidy : (p : ℕ) → p < u → tidy_at k n p (slice_index cs p) ≡ true) where
  -- with two different shuttles in the table, there are two, and all numbers of the cells are in use
  pub place_used : (s t i : ℕ) → Inside k n s t i → place k n s t i < u
  place_used s t i h =
      let two : 1 < k = two_of s t h.from_below h.to_below h.apart in
      omega (arith, whole two, place_lt k n s t i h.from_below h.to_below h.place_below)
    where
      two_of : (s t : ℕ) → s < k → t < k → (s ≢ t) → 1 < k
      two_of s t a b c = omega arith

  pub plain_lawful : Lawful (plain_meaning k n cs)
  plain_lawful = record {
    shuttles_some = small.0;
    shuttles_few = small.1;
    moves_some = small.2;
    moves_few = small.3;
    value_below = λ s t i j e.
        let h = plain_held k n cs s t i j e in
        let p = place k n s t i in
        tidy_below k n p (slice_index cs p) j (tidy p (place_used s t i (inside_from k n s t i h.0))) h.1;
    cell_inside = λ s t i j e. let h = inside_from k n s t i (plain_held k n cs s t i j e).0 in (h.from_below, h.to_below, h.apart, h.place_below);
    filled_le = filled_le k n (plain_cell k n cs) (plain_same k n cs) small.0;
  }
