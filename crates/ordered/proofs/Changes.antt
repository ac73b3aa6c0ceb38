-- Records in order, with one put in at its place and with one taken out: they stand in order, and what they hold.
use Rattle.std.proofs.Common.{◌≡◌, ℕ, zero, suc, pred, ◌+◌, ◌-◌, ◌<◌, ◌≤◌, true, false, not, ◌&&◌, ◌||◌, List, [], ◌∷◌, length, get_or, take, drop, refl, ap, ◌∙◌, inl, inr, arith}
use Rattle.std.specs.List.{insert, remove}
use Rattle.std.proofs.lemmas.List.{take_at, length-take-le, get_or-take}
use Rattle.std.proofs.lemmas.Bool.{and_parts, and_from, or_parts, cases_Bool}
use Rattle.std.proofs.lemmas.Bool.Decides.{nat_tests}
use Rattle.stores.specs.declared.wait.Wait.{Wait}
use Rattle.stores.specs.Holding.{with_wait, less_wait}
use Rattle.stores.specs.Waits.{wait_of, is_wait, held_in}
use Rattle.stores.specs.Rows.{room}
use Rattle.stores.specs.Loose.{loose_holding}
use Rattle.stores.proofs.Waits.{or_turn, out_of, in_for, is_wait_at, not_at}
use Rattle.stores.proofs.Records.{same_holding}
use Rattle.stores.specs.Rows.{put_in, taken_out}
use Rattle.ordered.specs.Ordered.{comes_before, leads, ascends, place_in}
use Rattle.ordered.specs.OrderedLaws.{not_before_itself, not_led}
use Rattle.ordered.proofs.Places.{place_within}
use Rattle.stores.proofs.Shifts.{put_in_used, length_put_in, taken_out_used, length_taken_out}

-- one record put in

held_inserted : (l : List Wait) (p : ℕ) (w : Wait) (a b : ℕ) → held_in (insert l p w) a b ≡ (is_wait w a b || held_in l a b)
held_inserted l zero w a b = refl
held_inserted [] (suc p) w a b = refl
held_inserted (x ∷ l) (suc p) w a b = ap (λ y. is_wait x a b || y) (held_inserted l p w a b) ∙ or_turn (is_wait x a b) (is_wait w a b) (held_in l a b)

led_inserted : (x : Wait) (l : List Wait) (p : ℕ) (w : Wait) → leads x l ≡ true → comes_before x w.first w.second ≡ true → leads x (insert l p w) ≡ true
led_inserted x l zero w led e = and_from _ _ e led
led_inserted x [] (suc p) w led e = and_from _ _ e refl
led_inserted x (y ∷ l) (suc p) w led e =
    let o = and_parts _ _ led in
    and_from _ _ o.0 (led_inserted x l p w o.1 e)

through : (w x y : Wait) → comes_before w x.first x.second ≡ true → comes_before x y.first y.second ≡ true → comes_before w y.first y.second ≡ true
through w x y e f = grind (arith, nat_tests)

led_through : (w x : Wait) (l : List Wait) → comes_before w x.first x.second ≡ true → leads x l ≡ true → leads w l ≡ true
led_through w x [] e led = refl
led_through w x (y ∷ l) e led =
    let o = and_parts _ _ led in
    and_from _ _ (through w x y e o.0) (led_through w x l e o.1)

-- of two waits that are not the same one stands before the other
other_way : (x : Wait) (u v : ℕ) → comes_before x u v ≡ false → is_wait x u v ≡ false → comes_before (wait_of u v) x.first x.second ≡ true
other_way x u v e f = grind (arith, nat_tests)

ascends_inserted : (l : List Wait) (u v : ℕ) → ascends l ≡ true → held_in l u v ≡ false → ascends (insert l (place_in l u v) (wait_of u v)) ≡ true
ascends_inserted [] u v up new = refl
ascends_inserted (x ∷ l) u v up new =
    let o = and_parts _ _ up in
    let n = or_parts _ _ new in
    elim (cases_Bool (comes_before x u v)) [
      | inl e ↦ rw e (and_from _ _ (led_inserted x l (place_in l u v) (wait_of u v) o.0 e) (ascends_inserted l u v o.1 n.1))
      | inr e ↦
          let f = other_way x u v e n.0 in
          rw e (and_from _ _ (and_from _ _ f (led_through (wait_of u v) x l f o.0)) up)
    ]

module _ (records : List Wait) (n u v : ℕ) (free : n < length records) where
  within : place_in (take n records) u v ≤ n
  within = place_within records n u v (omega arith)

  put_in_front : take (n + 1) (put_in records n (place_in (take n records) u v) (wait_of u v)) ≡ insert (take n records) (place_in (take n records) u v) (wait_of u v)
  put_in_front =
      take_at (insert (take n records) (place_in (take n records) u v) (wait_of u v)) (drop (n + 1) records) (n + 1)
      (put_in_used records n (place_in (take n records) u v) (wait_of u v) within free)

  pub added_rises : ascends (take n records) ≡ true → held_in (take n records) u v ≡ false
      → ascends (take (n + 1) (put_in records n (place_in (take n records) u v) (wait_of u v))) ≡ true
  added_rises up new = ap ascends put_in_front ∙ ascends_inserted (take n records) u v up new

  pub added_length : length (put_in records n (place_in (take n records) u v) (wait_of u v)) ≡ length records
  added_length = length_put_in records n (place_in (take n records) u v) (wait_of u v) within free

  pub added_holding : loose_holding (put_in records n (place_in (take n records) u v) (wait_of u v)) (n + 1) ≡ with_wait (loose_holding records n) u v
  added_holding =
      same_holding _ _ (n + 1) (suc n) _ _
      (λ a b. ap (λ k. held_in k a b) put_in_front ∙ held_inserted (take n records) (place_in (take n records) u v) (wait_of u v) a b)
      (omega arith)
      (ap room added_length)

-- one record taken out

led_removed : (x : Wait) (l : List Wait) (p : ℕ) → leads x l ≡ true → leads x (remove l p) ≡ true
led_removed x [] zero led = refl
led_removed x [] (suc p) led = refl
led_removed x (y ∷ l) zero led = (and_parts _ _ led).1
led_removed x (y ∷ l) (suc p) led =
    let o = and_parts _ _ led in
    and_from _ _ o.0 (led_removed x l p o.1)

ascends_removed : (l : List Wait) (p : ℕ) → ascends l ≡ true → ascends (remove l p) ≡ true
ascends_removed [] zero up = refl
ascends_removed [] (suc p) up = refl
ascends_removed (x ∷ l) zero up = (and_parts _ _ up).1
ascends_removed (x ∷ l) (suc p) up =
    let o = and_parts _ _ up in
    and_from _ _ (led_removed x l p o.0) (ascends_removed l p o.1)

-- a record that leads others is none of them
alone : (x : Wait) (l : List Wait) (a b : ℕ) → leads x l ≡ true → is_wait x a b ≡ true → held_in l a b ≡ false
alone x l a b led e = is_wait_at x a b e (held_in l) ∙ not_led x l x.first x.second led (not_before_itself x)

held_removed : (l : List Wait) (p : ℕ) (d : Wait) → p < length l → ascends l ≡ true → (a b : ℕ)
    → held_in (remove l p) a b ≡ (not (is_wait (get_or l p d) a b) && held_in l a b)
held_removed [] p d h up a b = absurd (omega arith)
held_removed (x ∷ l) zero d h up a b = out_of (is_wait x a b) (held_in l a b) (alone x l a b (and_parts _ _ up).0)
held_removed (x ∷ l) (suc p) d h up a b =
    let o : (leads x l ≡ true) × (ascends l ≡ true) = and_parts _ _ up in
    let in' : p < length l = omega arith in
    ap (λ y. is_wait x a b || y) (held_removed l p d in' o.1 a b)
    ∙ in_for (is_wait x a b) (is_wait (get_or l p d) a b) (held_in l a b) (λ e. not_at l p d a b in' (alone x l a b o.0 e))

module _ (records : List Wait) (n p : ℕ) (within : p < n) (few : n ≤ length records) (up : ascends (take n records) ≡ true) where
  taken_out_front : take (n - 1) (taken_out records n p) ≡ remove (take n records) p
  taken_out_front = take_at (remove (take n records) p) (drop (n - 1) records) (n - 1) (taken_out_used records n p within few)

  pub removed_rises : ascends (take (n - 1) (taken_out records n p)) ≡ true
  removed_rises = ap ascends taken_out_front ∙ ascends_removed (take n records) p up

  pub removed_holding : (u v : ℕ) → get_or records p (wait_of 0 0) ≡ wait_of u v → loose_holding (taken_out records n p) (n - 1) ≡ less_wait (loose_holding records n) u v
  removed_holding u v at =
      same_holding _ _ (n - 1) (pred n) _ _
      (λ a b.
      ap (λ k. held_in k a b) taken_out_front
      ∙ held_removed (take n records) p (wait_of 0 0) (omega (arith, length-take-le n records few)) up a b
      ∙ ap (λ x. not (is_wait x a b) && held_in (take n records) a b) (get_or-take n records p (wait_of 0 0) within ∙ at))
      (omega arith)
      (ap room (length_taken_out records n p within few))
