-- A placement, where the waits stand.
use Rattle.std.proofs.Common.{◌≡◌, ℕ, suc, ◌/◌, ◌%◌, Bool, true, false, ◌||◌, ltb, ◌↔◌, ◌∷◌, length, Some, None, Ok, Err, Option, Result, sym, refl, ap, ◌∙◌, subst, inl, inr, arith}
use mathlib.Core.Path.{fun_ext}
use Rattle.words.specs.declared.Refusal.{Refusal}
use Rattle.words.specs.Refusals.{passed, refused, then, unless, refused_if, if_done}
use Rattle.words.specs.Codes.{move_of}
use Rattle.words.proofs.Checks.{then_first, then_second, then_ok, then_assoc, refused_if_passed}
use Rattle.tables.specs.Meaning.{Meaning, filled_of}
use Rattle.tables.specs.Answers.{room}
use Rattle.stores.specs.Holding.{Holding, with_wait, not_full}
use Rattle.order.specs.Lists.{In}
use Rattle.order.specs.Board.{Before, Ordered}
use Rattle.order.specs.Cells.{CellOf}
use Rattle.order.proofs.Laws.{tested, circles}
use Rattle.questions.specs.Checks.{wait_check}
use Rattle.questions.proofs.Inside.{Waiting, wait_waiting}
use Rattle.board.specs.Steps.{Closes, judged, earlier_cell}
use Rattle.board.specs.Standing.{Limits, Waits, Sound, Stands, lengths, meant, listed, holds, cells_of, past, room_for, place_gives, Placed, Circled, placed_waits}
use Rattle.board.proofs.Holds.{same_waits, holds_in, in_holds}
use Rattle.board.proofs.Scans.{keeps_of}
use Rattle.board.proofs.Answering.{told}
use Rattle.board.proofs.Unique.{same_truth}

-- what says the same of the waits in plain words
pub stands_by : (b : Limits) (W : Waits) (m : Meaning) (h : Holding) → m ≡ meant b W → h ≡ listed b W → Sound b W → Stands b W m h
stands_by b W m h e e' s = record {
  table = e;
  store = e';
  sound = s;
  smallest = λ x t i lx lt d li. subst (λ y. CellOf W x t i (y.cell x t i)) (sym e) (keeps_of b.shuttles b.moves W x t i lx lt d li);
  waits = λ u v. subst (λ y. (y.held u v ≡ true) ↔ In W (move_of u, move_of v)) (sym e') (holds_in W (move_of u) (move_of v), in_holds W (move_of u) (move_of v));
}

-- one more wait in the cells and in the store

cell_placed : (b : Limits) (W : Waits) (u v : ℕ) → earlier_cell (meant b W) u v ≡ meant b ((move_of u, move_of v) ∷ W)
cell_placed b W u v = refl

wait_placed : (b : Limits) (W : Waits) (u v : ℕ) → with_wait (listed b W) u v ≡ listed b ((move_of u, move_of v) ∷ W)
wait_placed b W u v =
    let C : (ℕ → ℕ → Bool) → Holding = λ f. record { held = f; count = suc (length W); capacity = b.waits } in
    ap C (fun_ext (λ a. fun_ext (λ c. ap (λ x. x || holds W (move_of a) (move_of c)) (sym (same_waits u v a c)))))

-- answers

module _ (b : Limits) (W : Waits) (u v : ℕ) where
  abbrev cell_now : Option ℕ
  cell_now = cells_of W (u / 4096) (v / 4096) (u % 4096)

  room_is : (o : Option ℕ) → room (meant b W) o ≡ room_for b W o
  room_is None = refl
  room_is (Some x) = refl

  gives : (c : Bool) → then (judged (meant b W) (listed b W) c u v) (room (meant b W) cell_now) ≡ place_gives b W c u v
  gives c =
      then_assoc (past b W u v) (then (refused_if c 6) (not_full (listed b W))) (room (meant b W) cell_now)
      ∙ ap (then (past b W u v)) (then_assoc (refused_if c 6) (not_full (listed b W)) (room (meant b W) cell_now))
      ∙ ap (λ x. then (past b W u v) (then (refused_if c 6) (then (not_full (listed b W)) x))) (room_is cell_now)

  -- whether there is a circle matters only past the checks ahead of it
  gives_same : (c d : Bool) → (passed ≡ past b W u v → c ≡ d) → place_gives b W c u v ≡ place_gives b W d u v
  gives_same c d f = go (past b W u v) f
    where
      go : (q : Result Unit Refusal) → (passed ≡ q → c ≡ d)
          → then q (then (refused_if c 6) (then (unless (ltb (length W) b.waits) 7) (room_for b W cell_now)))
          ≡ then q (then (refused_if d 6) (then (unless (ltb (length W) b.waits) 7) (room_for b W cell_now)))
      go (Ok x) g = ap (λ y. then (refused_if y 6) (then (unless (ltb (length W) b.waits) 7) (room_for b W cell_now))) (g refl)
      go (Err e) g = refl

-- no later check refuses with 6
not_six : (full : Bool) (o : Result Unit Refusal) → (o ≡ refused 6 → ⊥) → then (unless full 7) o ≡ refused 6 → ⊥
not_six true o h e = h e
not_six false o h e = let z : ◌≡◌ {A = ℕ} 0 1 = cc in omega arith

room_not_six : (b : Limits) (W : Waits) (o : Option ℕ) → room_for b W o ≡ refused 6 → ⊥
room_not_six b W (Some j) e = let z : ◌≡◌ {A = ℕ} 0 1 = cc in omega arith
room_not_six b W None e = go (ltb (filled_of b.shuttles b.moves (cells_of W)) b.cells) e
  where
    go : (x : Bool) → unless x 8 ≡ refused 6 → ⊥
    go true q = let z : ◌≡◌ {A = ℕ} 0 1 = cc in omega arith
    go false q = let z : ◌≡◌ {A = ℕ} 0 1 = cc in omega arith

module _ (b : Limits) (W : Waits) (h : Sound b W) (u v : ℕ) where
  past_waiting : passed ≡ past b W u v → Waiting b.shuttles b.moves u v
  past_waiting ok = wait_waiting b.shuttles b.moves u v (then_first (wait_check b.shuttles b.moves u v) _ tt ok)

  closed : passed ≡ past b W u v → (c : Bool) → Closes (meant b W) u v c → (c ≡ true) ↔ Before b.shuttles (lengths b) W (move_of v) (move_of u)
  closed ok c g =
      let w = past_waiting ok in
      let f = g.1.1 in
      let t = told b W h v u w.to w.from f.0 g.0 f.1 in
      (λ x. t.0 (sym f.2 ∙ x), λ p. f.2 ∙ t.1 p)

  pub placed_says : (r : Result Unit Refusal) (c : Bool) → (passed ≡ past b W u v → Closes (meant b W) u v c)
      → r ≡ then (judged (meant b W) (listed b W) c u v) (room (meant b W) (cells_of W (u / 4096) (v / 4096) (u % 4096))) → Placed b W u v r
  placed_says r c f e =
      let t = tested b.shuttles (lengths b) W h.ordered (move_of u) in
      let d : Bool = t.0 (move_of v) in (
        d,
        t.1 (move_of v),
        e ∙ gives b W u v c ∙ gives_same b W u v c d (λ ok. same_truth c d (closed ok c (f ok)) (t.1 (move_of v))),
      )

  fresh : passed ≡ past b W u v → holds W (move_of u) (move_of v) ≡ false
  fresh ok = refused_if_passed (holds W (move_of u) (move_of v)) 4 (then_second (wait_check b.shuttles b.moves u v) _ tt ok)

  -- with the wait there still is a running order, exactly where it closes no circle
  opens : passed ≡ past b W u v → Ordered b.shuttles (lengths b) ((move_of u, move_of v) ∷ W) ↔ (Before b.shuttles (lengths b) W (move_of v) (move_of u) → ⊥)
  opens ok = let w = past_waiting ok in circles b.shuttles (lengths b) W h.ordered (move_of u) (move_of v) w.from w.to

  pub circled_says : (r : Result Unit Refusal) → Placed b W u v r → Circled b W u v r
  circled_says r p ok = go p.0 p.1 (p.2 ∙ then_ok (past b W u v) _ ok)
    where
      go : (c : Bool) → (c ≡ true) ↔ Before b.shuttles (lengths b) W (move_of v) (move_of u)
          → r ≡ then (refused_if c 6) (then (unless (ltb (length W) b.waits) 7) (room_for b W (cells_of W (u / 4096) (v / 4096) (u % 4096))))
          → (r ≡ refused 6) ↔ (Ordered b.shuttles (lengths b) ((move_of u, move_of v) ∷ W) → ⊥)
      go true q e = (λ _ o. (opens ok).0 o (q.0 refl), λ _. e)
      go false q e = (
        λ s. absurd (not_six (ltb (length W) b.waits) (room_for b W (cells_of W (u / 4096) (v / 4096) (u % 4096))) (room_not_six b W _) (sym e ∙ s)),
        λ none'. absurd (none' ((opens ok).1 (λ p. let x = q.1 p in let z : ◌≡◌ {A = ℕ} 0 1 = cc in omega arith))),
      )

  pub placed_stands : (r : Result Unit Refusal) → Placed b W u v r → (m' : Meaning) (h' : Holding) → m' ≡ if_done r (meant b W) (earlier_cell (meant b W) u v)
      → h' ≡ if_done r (listed b W) (with_wait (listed b W) u v) → Stands b (placed_waits W u v r) m' h'
  placed_stands (Err e) p m' h' q q' = stands_by b W m' h' q q' h
  placed_stands (Ok x) p m' h' q q' =
      let ok = then_first (past b W u v) _ tt p.2 in
      let no' = refused_if_passed p.0 6 (then_first (refused_if p.0 6) _ tt (then_second (past b W u v) _ tt p.2)) in
      stands_by b ((move_of u, move_of v) ∷ W) m' h' (q ∙ cell_placed b W u v) (q' ∙ wait_placed b W u v)
      (record {
        small = h.small;
        apart = λ a c i d. elim i [ inl e ↦ (past_waiting ok).apart (ap (λ z. z.0.0) e ∙ d ∙ sym (ap (λ z. z.1.0) e)) | inr i' ↦ h.apart a c i' d ];
        single = (fresh ok, h.single);
        ordered = (opens ok).1 (λ t. let y = p.1.1 t in let z : ◌≡◌ {A = ℕ} 0 1 = cc in omega arith);
      })
