-- The way up that finds the smallest value from a place on, and the way down that finds the last place with a small one.
use Rattle.std.proofs.Common.{◌≡◌, ℕ, zero, suc, ◌+◌, ◌-◌, ◌*◌, ◌/◌, ◌%◌, ◌^◌, ◌<◌, ◌≤◌, min, true, false, leb, ◌≢◌, ◌⊎◌, List, get_or, Some, None, Option, sym, ap, ◌∙◌, inl, inr, ⊎_elim, arith}
use Rattle.std.proofs.lemmas.Nat.{pow_pos}
use Rattle.std.proofs.lemmas.Bool.Decides.{nat_tests}
use Rattle.std.proofs.lemmas.Bool.{cases_eq, cases_lt, cases_Bool, leb-true, leb-false, eq-eqb, ne_eqb}
use Rattle.tables.specs.Meaning.{least_of, last_of, smaller, at_most}
use Rattle.tables.specs.Plain.{decoded}
use Rattle.tables.proofs.Extremes.{least_none}
use Rattle.fulltree.specs.Leaves.{pow_twice}
use Rattle.fulltree.specs.Tree.{node, leaf, Tree, best_with_right, way_down}
use Rattle.fulltree.proofs.Rows.{smaller_none, smaller_assoc, least_first, least_half, least_shift, last_at, last_no}
use Rattle.fulltree.proofs.Powers.{pow_le, pow_more}

-- the smaller of two numbers stands for the smaller of what they stand for
decoded_min : (a b : ℕ) → a ≤ 65535 → b ≤ 65535 → decoded (min a b) ≡ smaller (decoded a) (decoded b)
decoded_min a b x y = grind (arith, nat_tests)

-- one step up from q, whose level ends before 4 b
least_turn : (f : ℕ → Option ℕ) (best : Option ℕ) (q b : ℕ) → q < 2 * (2 * b) → ((c : ℕ) → q / 2 < c → c < 2 * b → f c ≡ smaller (f (2 * c)) (f (2 * c + 1))) →
    smaller (best_with_right f best q) (least_of f (q / 2 + 1) (2 * b)) ≡ smaller best (least_of f (q + 1) (2 * (2 * b)))
least_turn f best q b l two =
    let half = least_half f (q / 2 + 1) (2 * b) (λ c x y. two c (omega arith) y) in
    ⊎_elim
    (λ (even : q % 2 ≡ 0).
    let e : 2 * (q / 2 + 1) ≡ q + 1 + 1 = omega arith in
    rw (eq-eqb (q % 2) 0 even, least_first f (q + 1) (2 * (2 * b)) (omega arith), ← half, e) (smaller_assoc best (f (q + 1)) (least_of f (q + 1 + 1) (2 * (2 * b)))))
    (λ (odd : q % 2 ≢ 0).
    let e : 2 * (q / 2 + 1) ≡ q + 1 = omega arith in
    rw (ne_eqb (q % 2) 0 odd, ← half, e))
    (cases_eq (q % 2) 0)

-- what the way up keeps: q is on the level of 2 ^ h, and what is yet to be taken stands to the right of q there
pub record Up (p : ℕ) (row : List ℕ) (i : ℕ) (best : Option ℕ) (q : ℕ) : Type 0 where
  pub h : ℕ
  pub from : 2 ^ h ≤ q
  pub to : q < 2 * 2 ^ h
  pub within : 2 ^ h ≤ p
  pub rest : smaller best (least_of (node row) (q + 1) (2 * 2 ^ h)) ≡ least_of (leaf p row) i p

-- what the way down keeps: q is on the level of 2 ^ h, its number is at most j, and no number to the right of q there is
pub record Down (p : ℕ) (row : List ℕ) (j q : ℕ) : Type 0 where
  pub h : ℕ
  pub from : 2 ^ h ≤ q
  pub to : q < 2 * 2 ^ h
  pub within : 2 ^ h ≤ p
  pub here : get_or row q 0 ≤ j
  pub past : (c : ℕ) → q < c → c < 2 * 2 ^ h → j < get_or row c 0

-- 65,535 is greater than j, so the numbers tell what the values are
at_most_true : (j v : ℕ) → j < 65535 → v ≤ j → at_most j (decoded v) ≡ true
at_most_true j v few l = grind (arith, nat_tests)

at_most_false : (j v : ℕ) → j < v → at_most j (decoded v) ≡ false
at_most_false j v l = grind (arith, nat_tests)

module _ (p : ℕ) (row : List ℕ) (tree : Tree p row) where
  some : 0 < p
  some = omega (arith, tree.power.1, pow_pos tree.power.0)

  twin : (q : ℕ) → 0 < q → q < p → node row q ≡ smaller (node row (2 * q)) (node row (2 * q + 1))
  twin q s l = ap decoded (tree.inner q s l) ∙ decoded_min (get_or row (2 * q) 0) (get_or row (2 * q + 1) 0) (tree.small (2 * q) (omega arith) (omega arith)) (tree.small (2 * q + 1) (omega arith) (omega arith))

  pub up_starts : (i : ℕ) (best : Option ℕ) (q : ℕ) → i < p → q ≡ p + i → best ≡ node row q → Up p row i best q
  up_starts i best q l at leaf_is =
      let is = tree.power.1 in
      let e : 2 * 2 ^ tree.power.0 ≡ p + p = omega arith in
      let all = sym (least_first (node row) (p + i) (p + p) (omega arith)) ∙ sym (least_shift (node row) p i p) in
      record {
        h = tree.power.0;
        from = omega arith;
        to = omega arith;
        within = omega arith;
        rest = rw (leaf_is, e, at) all;
      }

  pub up_turns : (i : ℕ) (best : Option ℕ) (q : ℕ) → 1 < q → Up p row i best q → Up p row i (best_with_right (node row) best q) (q / 2)
  up_turns i best q more up = go up.h up.from up.to up.within up.rest
    where
      go : (h : ℕ) → 2 ^ h ≤ q → q < 2 * 2 ^ h → 2 ^ h ≤ p → smaller best (least_of (node row) (q + 1) (2 * 2 ^ h)) ≡ least_of (leaf p row) i p → Up p row i (best_with_right (node row) best q) (q / 2)
      go zero from to within rest = absurd (omega arith)
      go (suc h) from to within rest =
          let e = pow_twice h in
          record {
            h = h;
            from = omega arith;
            to = omega arith;
            within = omega (arith, pow_pos h);
            rest = least_turn (node row) best q (2 ^ h) (omega arith) (λ c x y. twin c (omega arith) (omega arith)) ∙ ap (λ x. smaller best (least_of (node row) (q + 1) (2 * x))) (sym e) ∙ rest;
          }

  pub up_ends : (i : ℕ) (best : Option ℕ) (q : ℕ) → q ≤ 1 → Up p row i best q → best ≡ least_of (leaf p row) i p
  up_ends i best q top up = sym (ap (smaller best) (least_none (node row) (q + 1) (2 * 2 ^ up.h) (omega (arith, up.from, pow_pos up.h))) ∙ smaller_none best) ∙ up.rest

  -- a number is at most each of the two below it
  above_le : (c : ℕ) → 1 < c → c < 2 * p → get_or row (c / 2) 0 ≤ get_or row c 0
  above_le c more few =
      let is = tree.inner (c / 2) (omega arith) (omega arith) in
      ⊎_elim
      (λ (even : c % 2 ≡ 0). let e : 2 * (c / 2) ≡ c = omega arith in let is' = rw e at is in omega arith)
      (λ (odd : c % 2 ≢ 0). let e : 2 * (c / 2) + 1 ≡ c = omega arith in let is' = rw e at is in omega arith)
      (cases_eq (c % 2) 0)

  -- where the top is greater than j, each number of each level is
  level_past : (j : ℕ) → j < get_or row 1 0 → (h : ℕ) → 2 ^ h ≤ p → (c : ℕ) → 2 ^ h ≤ c → c < 2 * 2 ^ h → j < get_or row c 0
  level_past j top zero within c from to = let e : c ≡ 1 = omega arith in rw e top
  level_past j top (suc h) within c from to =
      let e = pow_twice h in
      omega (arith, level_past j top h (omega (arith, pow_pos h)) (c / 2) (omega arith) (omega arith), above_le c (omega (arith, pow_pos h)) (omega arith))

  pub down_none : (j : ℕ) → j < get_or row 1 0 → None ≡ last_of (leaf p row) j p
  down_none j top =
      let is = tree.power.1 in
      sym (last_no (leaf p row) j p (λ c l. at_most_false j (get_or row (p + c) 0) (level_past j top tree.power.0 (omega arith) (p + c) (omega arith) (omega arith))))

  pub down_starts : (j : ℕ) → get_or row 1 0 ≤ j → Down p row j 1
  down_starts j top = record { h = 0; from = omega arith; to = omega arith; within = omega (arith, some); here = top; past = λ c a b. absurd (omega arith) }

  pub down_turns : (j q : ℕ) → q < p → Down p row j q → Down p row j (way_down row j q)
  down_turns j q l down =
      let e = pow_twice down.h in
      let is = tree.power.1 in
      let from = down.from in
      let to = down.to in
      let within : 2 ^ suc down.h ≤ p = omega (arith, pow_more down.h tree.power.0 (omega arith)) in
      let some' : 0 < q = omega (arith, pow_pos down.h) in
      let two = tree.inner q some' l in
      let past : (c : ℕ) → 2 * q + 1 < c → c < 2 * 2 ^ suc down.h → j < get_or row c 0 =
      λ c a b. omega (arith, down.past (c / 2) (omega arith) (omega arith), above_le c (omega arith) (omega arith)) in
      ⊎_elim
      (λ (t : leb (get_or row (2 * q + 1) 0) j ≡ true).
      rw t (record { h = suc down.h; from = omega arith; to = omega arith; within = within; here = leb-true (get_or row (2 * q + 1) 0) j t; past = past }))
      (λ (t : leb (get_or row (2 * q + 1) 0) j ≡ false).
      let right = leb-false (get_or row (2 * q + 1) 0) j t in
      rw t (record {
        h = suc down.h;
        from = omega arith;
        to = omega arith;
        within = within;
        here = omega (arith, down.here);
        past = λ c a b. ⊎_elim (λ (x : 2 * q + 1 < c). past c x b) (λ (x : c ≤ 2 * q + 1). let s : c ≡ 2 * q + 1 = omega arith in rw s right) (cases_lt (2 * q + 1) c);
      }))
      (cases_Bool (leb (get_or row (2 * q + 1) 0) j))

  pub down_ends : (j q : ℕ) → j < 65535 → p ≤ q → Down p row j q → Some (q - p) ≡ last_of (leaf p row) j p
  down_ends j q few l down =
      let is = tree.power.1 in
      let from = down.from in
      let to = down.to in
      let level : 2 ^ down.h ≡ p = omega (arith, down.within, pow_le_or down.h tree.power.0) in
      let at : p + (q - p) ≡ q = omega arith in
      sym (last_at (leaf p row) j p (q - p) (omega arith) (rw at (at_most_true j (get_or row q 0) few down.here)) (λ c x y. at_most_false j (get_or row (p + c) 0) (down.past (p + c) (omega arith) (omega arith))))
    where
      pow_le_or : (a b : ℕ) → (2 * 2 ^ a ≤ 2 ^ b) ⊎ (2 ^ b ≤ 2 ^ a)
      pow_le_or a b = ⊎_elim (λ (x : a < b). inl (omega (arith, pow_twice a, pow_le (suc a) b x))) (λ (x : b ≤ a). inr (pow_le b a x)) (cases_lt a b)
