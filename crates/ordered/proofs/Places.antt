-- The place of a wait among records that stand in order.
use Rattle.std.proofs.Common.{◌≡◌, ℕ, zero, suc, ◌<◌, ◌≤◌, Bool, true, false, cond, ltb, List, [], ◌∷◌, length, get_or, take, sym, refl, ap, ◌∙◌, inl, inr, arith}
use Rattle.std.specs.List.{slice_get}
use Rattle.std.specs.List.Sorted.{IsPartitionedBy, IsPartitionPoint}
use Rattle.std.proofs.lemmas.Option.{slice_get-get_or}
use Rattle.std.proofs.lemmas.List.{length-take-le, get_or-take}
use Rattle.std.proofs.lemmas.Bool.{and_parts, both_ways, cases_Bool, cond_both, lt-ltb, le-ltb, ltb-true}
use Rattle.std.proofs.lemmas.Bool.Decides.{nat_tests}
use Rattle.stores.specs.declared.wait.Wait.{Wait}
use Rattle.stores.specs.Waits.{wait_of, is_wait, held_in}
use Rattle.stores.specs.LooseLaws.{is_wait_is}
use Rattle.ordered.specs.Ordered.{comes_before, leads, ascends, place_in, some_wait}
use Rattle.ordered.specs.OrderedLaws.{not_led}

place_le : (l : List Wait) (u v : ℕ) → place_in l u v ≤ length l
place_le [] u v = omega arith
place_le (w ∷ l) u v =
    let h = place_le l u v in
    cond_both (comes_before w u v) (suc (place_in l u v)) 0 (λ n. n ≤ suc (length l)) (λ e. omega arith) (λ e. omega arith)

-- what stands behind a record that is not before the wait is not before it either
not_before_through : (w x : Wait) (u v : ℕ) → comes_before w x.first x.second ≡ true → comes_before w u v ≡ false → comes_before x u v ≡ false
not_before_through w x u v after not_after = grind (arith, nat_tests)

led_at : (w : Wait) (l : List Wait) (m : ℕ) (d : Wait) → leads w l ≡ true → m < length l → comes_before w (get_or l m d).first (get_or l m d).second ≡ true
led_at w [] m d led h = absurd (omega arith)
led_at w (x ∷ l) zero d led h = (and_parts _ _ led).0
led_at w (x ∷ l) (suc m) d led h = led_at w l m d (and_parts _ _ led).1 (omega arith)

pub ltb_both : (m n : ℕ) → ltb (suc m) (suc n) ≡ ltb m n
ltb_both m n = grind (arith, nat_tests)

first_place : (b : Bool) (n : ℕ) → b ≡ ltb 0 (cond b (suc n) 0)
first_place true n = sym (lt-ltb 0 (suc n) (omega arith))
first_place false n = refl

-- of records in order just those below the place of a wait stand before it
before_place : (l : List Wait) (m : ℕ) (d : Wait) (u v : ℕ) → ascends l ≡ true → m < length l → comes_before (get_or l m d) u v ≡ ltb m (place_in l u v)
before_place [] m d u v up h = absurd (omega arith)
before_place (w ∷ l) zero d u v up h = first_place (comes_before w u v) (place_in l u v)
before_place (w ∷ l) (suc m) d u v up h =
    let o : (leads w l ≡ true) × (ascends l ≡ true) = and_parts _ _ up in
    let in' : m < length l = omega arith in
    elim (cases_Bool (comes_before w u v)) [
      | inl e ↦ rw e (before_place l m d u v o.1 in' ∙ sym (ltb_both m (place_in l u v)))
      | inr e ↦ rw e (not_before_through w (get_or l m d) u v (led_at w l m d o.0 in') e ∙ sym (le-ltb (suc m) 0 (omega arith)))
    ]

-- a wait that is held stands at its place

before_apart : (w : Wait) (u v : ℕ) → comes_before w u v ≡ true → is_wait w u v ≡ false
before_apart w u v e = grind (arith, nat_tests)

pub held_place : (l : List Wait) (u v : ℕ) → ascends l ≡ true → some_wait (slice_get l (place_in l u v)) u v ≡ held_in l u v
held_place [] u v up = refl
held_place (w ∷ l) u v up =
    let o = and_parts _ _ up in
    elim (cases_Bool (comes_before w u v)) [
      | inl e ↦ let a = before_apart w u v e in rw e (rw a (held_place l u v o.1))
      | inr e ↦ let n = not_led w l u v o.0 e in rw e (rw n (grind arith))
    ]

-- the library's search for the place

pub parted : (l : List Wait) (u v : ℕ) → ascends l ≡ true → IsPartitionedBy (λ w. comes_before w u v) l
parted l u v up i j d less in' before =
    let p = place_in l u v in
    let below : j < p = ltb-true j p (sym (before_place l j d u v up in') ∙ before) in
    before_place l i d u v up (omega arith) ∙ lt-ltb i p (omega arith)

pub place_is : (l : List Wait) (u v i : ℕ) → i ≤ length l → IsPartitionPoint (λ w. comes_before w u v ≡ true) (λ w. comes_before w u v ≡ false) l i → i ≡ place_in l u v
place_is [] u v i few part = omega arith
place_is (w ∷ l) u v zero few part = let e = part.1 0 w (omega arith) (omega arith) in rw e refl
place_is (w ∷ l) u v (suc i) few part =
    let e = part.0 0 w (omega arith) (omega arith) in
    rw e (ap suc (place_is l u v i (omega arith) ((λ k d a b. part.0 (suc k) d (omega arith) (omega arith)), (λ k d a b. part.1 (suc k) d (omega arith) (omega arith)))))

within_some : (l : List Wait) (p u v : ℕ) → some_wait (slice_get l p) u v ≡ true → p < length l
within_some [] p u v e = absurd (both_ways _ refl e)
within_some (w ∷ l) zero u v e = omega arith
within_some (w ∷ l) (suc p) u v e = let h = within_some l p u v e in omega arith

-- the same of the first n records

module _ (records : List Wait) (n u v : ℕ) (few : n ≤ length records) where
  pub place_within : place_in (take n records) u v ≤ n
  place_within = omega (arith, place_le (take n records) u v, length-take-le n records few)

  module _ (up : ascends (take n records) ≡ true) (held : true ≡ held_in (take n records) u v) where
    there : some_wait (slice_get (take n records) (place_in (take n records) u v)) u v ≡ true
    there = held_place (take n records) u v up ∙ sym held

    pub held_below : place_in (take n records) u v < n
    held_below = omega (arith, within_some (take n records) (place_in (take n records) u v) u v there, length-take-le n records few)

    pub held_there : get_or records (place_in (take n records) u v) (wait_of 0 0) ≡ wait_of u v
    held_there =
        let p = place_in (take n records) u v in
        let size = length-take-le n records few in
        let at = slice_get-get_or (take n records) p (wait_of 0 0) (omega (arith, held_below)) in
        is_wait_is (get_or records p (wait_of 0 0)) u v
        (ap (λ w. is_wait w u v) (sym (get_or-take n records p (wait_of 0 0) held_below)) ∙ ap (λ o. some_wait o u v) (sym at) ∙ there)
