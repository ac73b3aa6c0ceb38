-- A table that is never full before the store is: how many cells it can fill is then seen in no answer.
use Rattle.std.proofs.Common.{◌≡◌, ℕ, ◌-◌, ◌*◌, ◌/◌, ◌%◌, ◌<◌, ◌≤◌, Bool, true, false, ◌&&◌, eqb, ltb, ◌⊎◌, List, [], ◌∷◌, length, get_or, take, Some, None, Ok, Err, Option, Result, sym, refl, ap, ◌∙◌, inl, inr, ⊎_elim, arith}
use Rattle.std.proofs.lemmas.Bool.{lt-ltb, ltb-true, cases_Bool}
use Rattle.std.proofs.lemmas.Bool.Decides.{nat_tests}
use Rattle.words.specs.declared.Refusal.{Refusal}
use Rattle.words.specs.Refusals.{passed, then, unless, refused_if}
use Rattle.words.specs.Codes.{move_of}
use Rattle.words.proofs.Checks.{then_first}
use Rattle.tables.specs.Meaning.{filled_of}
use Rattle.tables.specs.Checked.{Inside}
use Rattle.tables.proofs.Counting.{filled_more, filled_none, filled_lt}
use Rattle.order.specs.Lists.{In}
use Rattle.order.specs.Board.{Move}
use Rattle.order.specs.Rounds.{sooner}
use Rattle.questions.specs.Checks.{move_check, wait_check}
use Rattle.questions.proofs.Inside.{wait_waiting}
use Rattle.board.specs.Standing.{Limits, Waits, holds, cells_of, room_for, place_gives, PushedBy}
use Rattle.runs.specs.declared.calls.Ask.{Ask}
use Rattle.runs.specs.declared.calls.Ask.TheVariants.{Place, Remove, Before as IsBefore, FirstAfter, LastBefore, List as ListMoves, Push as PushMove, Test as TestOrder}
use Rattle.runs.specs.Law.{Outcome, Event, Answered, standing, Law}

abbrev pub Apart : Waits → Type 0
Apart W = (u v : Move) → In W (u, v) → u.0 ≡ v.0 → ⊥

-- each wait fills one cell at most
pub waits_fill : (k n : ℕ) (W : Waits) → Apart W → filled_of k n (cells_of W) ≤ length W
waits_fill k n [] apart = omega (arith, filled_none k n)
waits_fill k n (w ∷ W) apart =
    omega (arith, filled_more k n (cells_of W) w.0.0 w.1.0 w.0.1 (sooner (cells_of W w.0.0 w.1.0 w.0.1) (Some w.1.1)) (apart w.0 w.1 (inl refl)), waits_fill k n W (λ u v h. apart u v (inr h)))

-- no wait leads from a shuttle to itself
own_empty : (W : Waits) → Apart W → (s i : ℕ) → cells_of W s s i ≡ None
own_empty [] apart s i = refl
own_empty (w ∷ W) apart s i =
    ⊎_elim
    (λ (y : (eqb s w.0.0 && eqb s w.1.0 && eqb i w.0.1) ≡ true). absurd (apart w.0 w.1 (inl refl) (grind (arith, nat_tests))))
    (λ (no : (eqb s w.0.0 && eqb s w.1.0 && eqb i w.0.1) ≡ false). rw no (own_empty W (λ u v h. apart u v (inr h)) s i))
    (cases_Bool (eqb s w.0.0 && eqb s w.1.0 && eqb i w.0.1))

abbrev pub sized : (k n cells waits : ℕ) → Limits
sized k n cells waits = record { shuttles = k; moves = n; cells = cells; waits = waits }

-- the table has as many cells as the store has waits, or all that there are
abbrev pub Ample : (k n cells waits : ℕ) → Type 0
Ample k n cells waits = (waits ≤ cells) ⊎ (cells ≡ k * (k - 1) * n)

-- then it has room for each wait that the store has room for
module _ (k n waits : ℕ) (W : Waits) (apart : Apart W) where
  roomy : (cells u v : ℕ) → Ample k n cells waits → passed ≡ wait_check k n u v → length W < waits → (o : Option ℕ) → cells_of W (u / 4096) (v / 4096) (u % 4096) ≡ o →
      room_for (sized k n cells waits) W o ≡ passed
  roomy cells u v ample ok less (Some j) e = refl
  roomy cells u v (inl many) ok less None e = rw (lt-ltb _ _ (le_lt (filled_of k n (cells_of W)) (length W) waits cells (waits_fill k n W apart) less many))
    where
      le_lt : (a b c d : ℕ) → a ≤ b → b < c → c ≤ d → a < d
      le_lt a b c d x y z = omega arith
  roomy cells u v (inr all) ok less None e =
      let w = wait_waiting k n u v ok in
      let in' : Inside k n (u / 4096) (v / 4096) (u % 4096) = record { from_below = w.from.0; to_below = w.to.0; apart = w.apart; place_below = w.from.1 } in
      let l : filled_of k n (cells_of W) < cells = omega (arith, all, filled_lt k n (cells_of W) (own_empty W apart) (u / 4096) (v / 4096) (u % 4096) in' e) in
      rw (lt-ltb (filled_of k n (cells_of W)) cells l)

  -- so two such tables answer a placement alike
  module _ (x y : ℕ) (ax : Ample k n x waits) (ay : Ample k n y waits) where
    rest : (b : Bool) → ltb (length W) waits ≡ b → (u v : ℕ) → passed ≡ wait_check k n u v →
        ◌≡◌ {A = Result Unit Refusal} (then (unless b 7) (room_for (sized k n x waits) W (cells_of W (u / 4096) (v / 4096) (u % 4096)))) (then (unless b 7) (room_for (sized k n y waits) W (cells_of W (u / 4096) (v / 4096) (u % 4096))))
    rest false e u v ok = refl
    rest true e u v ok = roomy x u v ax ok (ltb-true _ _ e) _ refl ∙ sym (roomy y u v ay ok (ltb-true _ _ e) _ refl)

    pub place_alike : (c : Bool) (u v : ℕ) → place_gives (sized k n x waits) W c u v ≡ place_gives (sized k n y waits) W c u v
    place_alike c u v = go (then (wait_check k n u v) (refused_if (holds W (move_of u) (move_of v)) 4)) refl
      where
        go : (p : Result Unit Refusal) → then (wait_check k n u v) (refused_if (holds W (move_of u) (move_of v)) 4) ≡ p →
            then p (then (refused_if c 6) (then (unless (ltb (length W) waits) 7) (room_for (sized k n x waits) W (cells_of W (u / 4096) (v / 4096) (u % 4096)))))
            ≡ then p (then (refused_if c 6) (then (unless (ltb (length W) waits) 7) (room_for (sized k n y waits) W (cells_of W (u / 4096) (v / 4096) (u % 4096)))))
        go (Err e) is = refl
        go (Ok q) is = ap (then (refused_if c 6)) (rest (ltb (length W) waits) refl u v (then_first (wait_check k n u v) _ tt (sym is)))

-- and a run has the law at the limits of either
module _ (k n waits x y : ℕ) (ax : Ample k n x waits) (ay : Ample k n y waits) where
  pushed_alike : (W : Waits) (q : Result Unit Refusal) (v : ℕ) (old new : List ℕ) (r : Result ℕ Refusal) → PushedBy q (sized k n x waits) W v old new r → PushedBy q (sized k n y waits) W v old new r
  pushed_alike W (Ok z) v old new r h = h
  pushed_alike W (Err e) v old new r h = h

  answered_alike : (W : Waits) → Apart W → (q : Ask) (old : List ℕ) (a : Outcome) (new : List ℕ) →
      Answered (sized k n x waits) W q old a new → Answered (sized k n y waits) W q old a new
  answered_alike W apart (Place u v) old a new h =
      let r = h.0 in
      ((r.0, r.1, (r.2.0, r.2.1, r.2.2 ∙ place_alike k n waits W apart x y ax ay r.2.0 u v), r.3), h.1)
  answered_alike W apart (Remove u v) old a new h = h
  answered_alike W apart (IsBefore u v) old a new h = h
  answered_alike W apart (FirstAfter u t) old a new h = h
  answered_alike W apart (LastBefore u t) old a new h = h
  answered_alike W apart ListMoves old a new h = h
  answered_alike W apart (PushMove v) old a new h = (h.0, h.1, pushed_alike W (move_check k n v) v old new h.0 h.2)
  answered_alike W apart TestOrder old a new h = h

  pub law_alike : (es : List Event) → ((i : ℕ) → i ≤ length es → Apart (standing (take i es))) → Law (sized k n x waits) es → Law (sized k n y waits) es
  law_alike es apart law = record {
    each = λ i e l. let z = get_or es i e in answered_alike (standing (take i es)) (apart i (omega arith)) z.ask z.given z.answer z.left (law.each i e l);
    upright = λ i l. let u = law.upright i l in record { order = u.order; before = u.before };
  }
