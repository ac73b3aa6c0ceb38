-- The earliest place on a shuttle, among records that stand in order.
use Rattle.std.proofs.Common.{◌≡◌, ℕ, ◌*◌, ◌/◌, ◌%◌, ◌<◌, true, false, ◌&&◌, eqb, List, [], ◌∷◌, Some, None, Option, refl, inl, inr, arith}
use Rattle.std.specs.List.{slice_get}
use Rattle.std.proofs.lemmas.Bool.{and_parts, or_from, or_left, or_right, cases_Bool}
use Rattle.std.proofs.lemmas.Bool.Decides.{nat_tests}
use Rattle.words.specs.Codes.{code_of}
use Rattle.stores.specs.declared.wait.Wait.{Wait}
use Rattle.stores.specs.Waits.{is_wait, led_to}
use Rattle.stores.proofs.Finding.{EarliestIn, leads_there, not_sooner, leads_nowhere}
use Rattle.ordered.specs.Ordered.{comes_before, leads, ascends, place_in, led_by}
use Rattle.ordered.specs.OrderedLaws.{not_led}

-- a record before the shuttle's first place leads to none of its places
too_early : (w : Wait) (u t j : ℕ) → comes_before w u (t * 4096) ≡ true → is_wait w u (code_of t j) ≡ false
too_early w u t j e = grind (arith, nat_tests)

past : (w : Wait) (l : List Wait) (u t : ℕ) (r : Option ℕ) → comes_before w u (t * 4096) ≡ true → EarliestIn l u t r → EarliestIn (w ∷ l) u t r
past w l u t None e h = λ few j b. or_from _ _ (too_early w u t j e) (h few j b)
past w l u t (Some j) e h = (h.0, h.1, or_right _ _ h.2, λ b less. or_from _ _ (too_early w u t b e) (h.3 b less))

-- the first record that is not before the shuttle's first place leads to the earliest, or none does

none_sooner : (w : Wait) (u t b : ℕ) → (eqb w.first u && eqb (w.second / 4096) t) ≡ true → b < w.second % 4096 → comes_before w u (code_of t b) ≡ false
none_sooner w u t b e less = grind (arith, nat_tests)

none_there : (w : Wait) (u t j : ℕ) → comes_before w u (t * 4096) ≡ false → (eqb w.first u && eqb (w.second / 4096) t) ≡ false → j < 4096 → comes_before w u (code_of t j) ≡ false
none_there w u t j late e less = grind (arith, nat_tests)

here : (w : Wait) (l : List Wait) (u t : ℕ) → t < 16 → ascends (w ∷ l) ≡ true → comes_before w u (t * 4096) ≡ false → EarliestIn (w ∷ l) u t (led_to w u t)
here w l u t few up late =
    let o : (leads w l ≡ true) × (ascends l ≡ true) = and_parts _ _ up in
    elim (cases_Bool (eqb w.first u && eqb (w.second / 4096) t)) [
      | inl e ↦
          rw e (
            few,
            omega arith,
            or_left _ _ (leads_there w u t e),
            λ b less. or_from _ _ (not_sooner w u t b e less) (not_led w l u (code_of t b) o.0 (none_sooner w u t b e less)),
          )
      | inr e ↦ rw e (λ _ j less. or_from _ _ (leads_nowhere w u t j e less) (not_led w l u (code_of t j) o.0 (none_there w u t j late e less)))
    ]

pub earliest_at : (l : List Wait) (u t : ℕ) → t < 16 → ascends l ≡ true → EarliestIn l u t (led_by (slice_get l (place_in l u (t * 4096))) u t)
earliest_at [] u t few up = λ _ j less. refl
earliest_at (w ∷ l) u t few up =
    elim (cases_Bool (comes_before w u (t * 4096))) [
      | inl e ↦ rw e (past w l u t _ e (earliest_at l u t few (and_parts _ _ up).1))
      | inr e ↦ rw e (here w l u t few up e)
    ]
