-- Which waits a list of records holds: with one record more, and with another record in the place of one.
use Rattle.std.proofs.Common.{◌≡◌, ℕ, zero, suc, ◌<◌, Bool, true, false, not, ◌&&◌, ◌||◌, List, [], ◌∷◌, ◌++◌, length, get_or, set, sym, refl, ap, ◌∙◌, arith}
use Rattle.std.proofs.lemmas.Bool.Decides.{nat_tests}
use Rattle.std.proofs.lemmas.Bool.{and_parts, and_from, and_right, or_parts, or_from, not-true, not_from_false, eq-eqb}
use Rattle.stores.specs.declared.wait.Wait.{Wait}
use Rattle.stores.specs.Waits.{is_wait, held_in, single}
use Rattle.stores.specs.LooseLaws.{is_wait_is}

-- one record

pub is_wait_own : (w : Wait) → is_wait w w.first w.second ≡ true
is_wait_own w = and_from _ _ (eq-eqb w.first w.first refl) (eq-eqb w.second w.second refl)

-- a test says the same of the wait from a to b and of the record that is that wait
pub is_wait_at : (w : Wait) (a b : ℕ) → is_wait w a b ≡ true → (f : ℕ → ℕ → Bool) → f a b ≡ f w.first w.second
is_wait_at w a b e f = ap (λ x. f x.first x.second) (sym (is_wait_is w a b e))

is_wait_turn : (w x : Wait) → is_wait w x.first x.second ≡ is_wait x w.first w.second
is_wait_turn w x = grind (arith, nat_tests)

-- one record more

pub or_turn : (x y z : Bool) → (x || (y || z)) ≡ (y || (x || z))
or_turn true true z = refl
or_turn true false z = refl
or_turn false true z = refl
or_turn false false z = refl

pub held_push : (l : List Wait) (w : Wait) (a b : ℕ) → held_in (l ++ w ∷ []) a b ≡ (is_wait w a b || held_in l a b)
held_push [] w a b = refl
held_push (x ∷ l) w a b = ap (λ y. is_wait x a b || y) (held_push l w a b) ∙ or_turn (is_wait x a b) (is_wait w a b) (held_in l a b)

pub single_push : (l : List Wait) (w : Wait) → single l ≡ true → held_in l w.first w.second ≡ false → single (l ++ w ∷ []) ≡ true
single_push [] w once new = refl
single_push (x ∷ l) w once new =
    let o = and_parts _ _ once in
    let n = or_parts _ _ new in
    and_from _ _
    (not_from_false _ (held_push l w x.first x.second ∙ or_from _ _ (is_wait_turn w x ∙ n.0) (not-true _ o.0)))
    (single_push l w o.1 n.1)

pub single_pop : (l : List Wait) (w : Wait) → single (l ++ w ∷ []) ≡ true → (single l ≡ true) × (held_in l w.first w.second ≡ false)
single_pop [] w once = (refl, refl)
single_pop (x ∷ l) w once =
    let o = and_parts _ _ once in
    let h = single_pop l w o.1 in
    let n = or_parts _ _ (sym (held_push l w x.first x.second) ∙ not-true _ o.0) in
    (and_from _ _ (not_from_false _ n.1) h.0, or_from _ _ (is_wait_turn x w ∙ n.0) h.1)

-- another record in the place of one

pub held_at : (l : List Wait) (p : ℕ) (d : Wait) → p < length l → held_in l (get_or l p d).first (get_or l p d).second ≡ true
held_at [] p d h = absurd (omega arith)
held_at (x ∷ l) zero d h = let e = is_wait_own x in rw e
held_at (x ∷ l) (suc p) d h = let e = held_at l p d (omega arith) in grind arith

-- a wait that is not held is no record's
pub not_at : (l : List Wait) (p : ℕ) (d : Wait) (a b : ℕ) → p < length l → held_in l a b ≡ false → is_wait (get_or l p d) a b ≡ false
not_at l p d a b h e = grind (arith, held_at l p d h, is_wait_at (get_or l p d) a b)

-- the wait x is no more held
pub out_of : (x h : Bool) → (x ≡ true → h ≡ false) → h ≡ (not x && (x || h))
out_of true h none = none refl
out_of false h none = refl

-- y is let go, and w is held
pub in_for : (w y h : Bool) → (w ≡ true → y ≡ false) → (w || (not y && h)) ≡ (not y && (w || h))
in_for true true h apart = apart refl
in_for true false h apart = refl
in_for false y h apart = refl

pub held_set : (l : List Wait) (p : ℕ) (d w : Wait) → p < length l → single l ≡ true → (a b : ℕ)
    → held_in (set l p w) a b ≡ (is_wait w a b || (not (is_wait (get_or l p d) a b) && held_in l a b))
held_set [] p d w h once a b = absurd (omega arith)
held_set (x ∷ l) zero d w h once a b =
    let o = and_parts _ _ once in
    ap (λ y. is_wait w a b || y) (out_of (is_wait x a b) (held_in l a b) (λ e. is_wait_at x a b e (held_in l) ∙ not-true _ o.0))
held_set (x ∷ l) (suc p) d w h once a b =
    let in' : p < length l = omega arith in
    let o = and_parts _ _ once in
    let apart : is_wait x a b ≡ true → is_wait (get_or l p d) a b ≡ false = λ e. not_at l p d a b in' (is_wait_at x a b e (held_in l) ∙ not-true _ o.0) in
    ap (λ y. is_wait x a b || y) (held_set l p d w in' o.1 a b)
    ∙ or_turn (is_wait x a b) (is_wait w a b) (not (is_wait (get_or l p d) a b) && held_in l a b)
    ∙ ap (λ y. is_wait w a b || y) (in_for (is_wait x a b) (is_wait (get_or l p d) a b) (held_in l a b) apart)

pub single_set : (l : List Wait) (p : ℕ) (w : Wait) → p < length l → single l ≡ true → held_in l w.first w.second ≡ false → single (set l p w) ≡ true
single_set [] p w h once new = absurd (omega arith)
single_set (x ∷ l) zero w h once new =
    let o = and_parts (not (held_in l x.first x.second)) (single l) once in
    let n = or_parts (is_wait x w.first w.second) (held_in l w.first w.second) new in
    and_from (not (held_in l w.first w.second)) (single l) (not_from_false _ n.1) o.1
single_set (x ∷ l) (suc p) w h once new =
    let in' : p < length l = omega arith in
    let o = and_parts _ _ once in
    let n = or_parts _ _ new in
    and_from _ _
    (not_from_false _ (held_set l p w w in' o.1 x.first x.second ∙ or_from _ _ (is_wait_turn w x ∙ n.0) (and_right _ _ (not-true _ o.0))))
    (single_set l p w in' o.1 n.1)

-- the last record goes into the place of one

module _ (l : List Wait) (w : Wait) (once : single (l ++ w ∷ []) ≡ true) (a b : ℕ) where
  pub held_moved : (p : ℕ) (d : Wait) → p < length l → held_in (set l p w) a b ≡ (not (is_wait (get_or l p d) a b) && held_in (l ++ w ∷ []) a b)
  held_moved p d h =
      let o = single_pop l w once in
      let apart : is_wait w a b ≡ true → is_wait (get_or l p d) a b ≡ false = λ e. not_at l p d a b h (is_wait_at w a b e (held_in l) ∙ o.1) in
      held_set l p d w h o.0 a b
      ∙ in_for (is_wait w a b) (is_wait (get_or l p d) a b) (held_in l a b) apart
      ∙ ap (λ y. not (is_wait (get_or l p d) a b) && y) (sym (held_push l w a b))

  pub held_dropped : held_in l a b ≡ (not (is_wait w a b) && held_in (l ++ w ∷ []) a b)
  held_dropped =
      out_of (is_wait w a b) (held_in l a b) (λ e. is_wait_at w a b e (held_in l) ∙ (single_pop l w once).1)
      ∙ ap (λ y. not (is_wait w a b) && y) (sym (held_push l w a b))
