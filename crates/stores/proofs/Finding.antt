-- Where the library's search finds a wait, and the least of the places that waits lead to.
use Rattle.std.proofs.Common.{◌≡◌, ℕ, ◌/◌, ◌%◌, ◌<◌, ◌≤◌, Bool, true, false, min, ◌&&◌, ◌||◌, eqb, ltb, List, [], ◌∷◌, length, get_or, take, Some, None, Option, sym, refl, ap, ◌∙◌, inl, inr, subst, arith}
use Rattle.std.specs.List.{filter_map, cons_option, fold, position, position_or_len, reduce}
use Rattle.std.proofs.lemmas.List.{length-take-le, get_or-take}
use Rattle.std.proofs.lemmas.List.Quantifiers.{position-Some}
use Rattle.std.proofs.lemmas.Bool.{or_from, or_left, cases_Bool, cases_lt, lt-ltb, le-ltb}
use Rattle.std.proofs.lemmas.Bool.Decides.{nat_tests}
use Rattle.words.specs.Codes.{code_of}
use Rattle.order.specs.Rounds.{sooner}
use Rattle.stores.specs.declared.wait.Wait.{Wait}
use Rattle.stores.specs.Holding.{Earliest}
use Rattle.stores.specs.LooseLaws.{is_wait_is}
use Rattle.stores.specs.Waits.{wait_of, is_wait, held_in, led_to, Found}
use Rattle.stores.proofs.Earliest.{earliest_either}

-- a wait is held exactly where the search does not come to the end

held_before_end : (l : List Wait) (u v : ℕ) → held_in l u v ≡ ltb (position_or_len (λ w. is_wait w u v) l) (length l)
held_before_end [] u v = refl
held_before_end (w ∷ l) u v =
    let rest = held_before_end l u v in
    elim (cases_Bool (is_wait w u v)) [
      | inl e ↦ rw e (sym (lt-ltb _ _ (omega arith)))
      | inr e ↦ rw e (rest ∙ grind (arith, nat_tests))
    ]

pub position_found : (records : List Wait) (n u v : ℕ) → n ≤ length records → Found records n u v (position (λ w. is_wait w u v) (take n records))
position_found records n u v few =
    let l = take n records in
    let p = position_or_len (λ w. is_wait w u v) l in
    let held = held_before_end l u v in
    let size = length-take-le n records few in
    elim (cases_lt p (length l)) [
      | inl h ↦
          let e = lt-ltb p (length l) h in
          let at = position-Some (λ w. is_wait w u v) l p (wait_of 0 0) (rw e refl) in
          rw e (held ∙ e, omega arith, sym (get_or-take n records p (wait_of 0 0) (omega arith)) ∙ is_wait_is (get_or l p (wait_of 0 0)) u v at.1)
      | inr h ↦ let e = le-ltb p (length l) h in rw e (held ∙ e)
    ]

-- the least of the places that waits lead to

min_min : (x y : ℕ) (r : Option ℕ) → sooner (Some (min x y)) r ≡ sooner (Some x) (sooner (Some y) r)
min_min x y None = refl
min_min x y (Some r) = ap Some (omega arith)

least_first : (x : ℕ) (xs : List ℕ) → ◌≡◌ {A = Option ℕ} (Some (fold min x xs)) (sooner (Some x) (reduce min xs))
least_first x [] = refl
least_first x (y ∷ ys) = least_first (min x y) ys ∙ min_min x y (reduce min ys) ∙ ap (sooner (Some x)) (sym (least_first y ys))

least_more : (o : Option ℕ) (xs : List ℕ) → reduce min (cons_option o xs) ≡ sooner o (reduce min xs)
least_more None xs = refl
least_more (Some x) xs = least_first x xs

-- the earliest place that a list of records leads to
abbrev pub EarliestIn : List Wait → (u t : ℕ) → Option ℕ → Type 0
EarliestIn l u t r = Earliest (record { held = held_in l; count = 0; capacity = 0 }) u t r

pub leads_there : (w : Wait) (u t : ℕ) → (eqb w.first u && eqb (w.second / 4096) t) ≡ true → is_wait w u (code_of t (w.second % 4096)) ≡ true
leads_there w u t e = grind (arith, nat_tests)

pub not_sooner : (w : Wait) (u t b : ℕ) → (eqb w.first u && eqb (w.second / 4096) t) ≡ true → b < w.second % 4096 → is_wait w u (code_of t b) ≡ false
not_sooner w u t b e less = grind (arith, nat_tests)

pub leads_nowhere : (w : Wait) (u t j : ℕ) → (eqb w.first u && eqb (w.second / 4096) t) ≡ false → j < 4096 → is_wait w u (code_of t j) ≡ false
leads_nowhere w u t j e less = grind (arith, nat_tests)

earliest_of_one : (w : Wait) (u t : ℕ) → t < 16 → EarliestIn (w ∷ []) u t (led_to w u t)
earliest_of_one w u t few =
    elim (cases_Bool (eqb w.first u && eqb (w.second / 4096) t)) [
      | inl e ↦ rw e (few, omega arith, or_left _ _ (leads_there w u t e), λ b less. or_from _ _ (not_sooner w u t b e less) refl)
      | inr e ↦ rw e (λ _ j less. or_from _ _ (leads_nowhere w u t j e less) refl)
    ]

or_none : (x y : Bool) → (x || y) ≡ ((x || false) || y)
or_none true y = refl
or_none false y = refl

pub least_earliest : (l : List Wait) (u t : ℕ) → t < 16 → EarliestIn l u t (reduce min (filter_map (λ w. led_to w u t) l))
least_earliest [] u t few = λ _ j less. refl
least_earliest (w ∷ l) u t few =
    subst (EarliestIn (w ∷ l) u t) (sym (least_more (led_to w u t) (filter_map (λ x. led_to x u t) l)))
    (earliest_either
    (record { held = held_in (w ∷ []); count = 0; capacity = 0 })
    (record { held = held_in l; count = 0; capacity = 0 })
    (record { held = held_in (w ∷ l); count = 0; capacity = 0 })
    u t (λ v. or_none (is_wait w u v) (held_in l u v)) (led_to w u t) _ (earliest_of_one w u t few) (least_earliest l u t few))
