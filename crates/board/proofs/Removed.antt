-- A removal, where the waits stand: the cell gets back the earliest of the waits that are left.
use Rattle.std.proofs.Common.{◌≡◌, ℕ, pred, ◌+◌, ◌*◌, ◌/◌, ◌%◌, ◌<◌, ◌≤◌, Bool, true, false, cond, not, ◌&&◌, ◌⊎◌, length, Some, None, Ok, Err, Option, Result, sym, refl, ap, ◌∙◌, subst, inl, inr, ⊎_elim, arith}
use mathlib.Core.Path.{fun_ext}
use Rattle.std.proofs.lemmas.Bool.{cases_Bool, cases_lt}
use Rattle.words.specs.declared.Refusal.{Refusal}
use Rattle.words.specs.Refusals.{passed, if_done}
use Rattle.words.specs.Codes.{move_of, code_of}
use Rattle.words.proofs.Checks.{then_first, then_second, then_ok, unless_passed}
use Rattle.tables.specs.Meaning.{Meaning, same_cell, with_cell}
use Rattle.tables.specs.Answers.{room, taken, valued, put_answer}
use Rattle.tables.proofs.Allowed.{valued_from}
use Rattle.stores.specs.Holding.{Holding, Earliest, less_wait}
use Rattle.order.specs.Lists.{In}
use Rattle.order.specs.Rounds.{Table}
use Rattle.order.specs.Cells.{CellOf}
use Rattle.order.proofs.Board.{removes}
use Rattle.order.proofs.Ways.{fits}
use Rattle.questions.specs.Checks.{wait_check}
use Rattle.questions.proofs.Inside.{Waiting, wait_waiting}
use Rattle.board.specs.Steps.{set_after, Removing}
use Rattle.board.specs.Standing.{Limits, Waits, Sound, Stands, lengths, meant, listed, holds, without, cells_of, remove_gives, removed_waits}
use Rattle.board.proofs.Holds.{same_waits, same_cell_is, holds_in, in_holds, holds_without, without_in, length_without, single_without, cells_without}
use Rattle.board.proofs.Puts.{waiting_allowed}
use Rattle.board.proofs.Scans.{keeps_of}
use Rattle.board.proofs.Placed.{stands_by}

move_code : (t j : ℕ) → j < 4096 → move_of (code_of t j) ≡ (t, j)
move_code t j l =
    let a : (t * 4096 + j) / 4096 ≡ t = omega arith in
    let c : (t * 4096 + j) % 4096 ≡ j = omega arith in
    λ i. (a i, c i)

true_false : (x : Bool) → x ≡ true → x ≡ false → ⊥
true_false x p q = let z : true ≡ false = sym p ∙ q in let y : ◌≡◌ {A = ℕ} 0 1 = cc in omega arith

-- what the store says is the earliest is what the cell is to hold
module _ (b : Limits) (V : Waits) (h : Sound b V) (u t : ℕ) (small : t < 16) where
  held_at : (j : ℕ) → j < 4096 → holds V (move_of u) (move_of (code_of t j)) ≡ holds V (move_of u) (t, j)
  held_at j l = ap (holds V (move_of u)) (move_code t j l)

  low : (j : ℕ) → In V (move_of u, (t, j)) → j < 4096
  low j i = let f = fits b.shuttles (lengths b) V h.ordered.0 h.ordered.1 (move_of u) (t, j) i in let s = h.small in omega (arith, f.1.1)

  earliest_is : (o x : Option ℕ) → Earliest (listed b V) u t o → CellOf V (u / 4096) t (u % 4096) x → o ≡ x
  earliest_is None None e c = refl
  earliest_is None (Some j) e c =
      absurd (true_false (holds V (move_of u) (t, j)) (in_holds V (move_of u) (t, j) c.0) (sym (held_at j (low j c.0)) ∙ e small j (low j c.0)))
  earliest_is (Some j) None e c = absurd (c j (holds_in V (move_of u) (t, j) (sym (held_at j e.1) ∙ e.2)))
  earliest_is (Some j) (Some i) e c =
      let a : i ≤ j = c.1 j (holds_in V (move_of u) (t, j) (sym (held_at j e.1) ∙ e.2)) in
      let d : i < j → ⊥ = λ l. true_false (holds V (move_of u) (t, i)) (in_holds V (move_of u) (t, i) c.0) (sym (held_at i (low i c.0)) ∙ e.3 i l) in
      ap Some (⊎_elim (λ (l : i < j). absurd (d l)) (λ (l : j ≤ i). omega arith) (cases_lt i j))

module _ (b : Limits) (W : Waits) (h : Sound b W) (u v : ℕ) where
  -- the waits that are left
  abbrev Left : Waits
  Left = without W (move_of u) (move_of v)

  sound_left : Sound b Left
  sound_left = record {
    small = h.small;
    apart = λ a c i. h.apart a c (without_in (move_of u) (move_of v) W (a, c) i);
    single = single_without (move_of u) (move_of v) W h.single;
    ordered = (h.ordered.0, removes b.shuttles (lengths b) W Left h.ordered.0 h.ordered.1 (without_in (move_of u) (move_of v) W));
  }

  wait_removed : holds W (move_of u) (move_of v) ≡ true → less_wait (listed b W) u v ≡ listed b Left
  wait_removed e =
      let C : (ℕ → ℕ → Bool) → ℕ → Holding = λ f n. record { held = f; count = n; capacity = b.waits } in
      ap (λ f. C f (pred (length W)))
      (fun_ext (λ a. fun_ext (λ c. ap (λ x. not x && holds W (move_of a) (move_of c)) (sym (same_waits u v a c)) ∙ sym (holds_without (move_of u) (move_of v) W (move_of a) (move_of c)))))
      ∙ ap (C (λ a c. holds Left (move_of a) (move_of c))) (ap pred (sym (length_without (move_of u) (move_of v) W h.single e)))

  cell_removed : (o : Option ℕ) → o ≡ cells_of Left (u / 4096) (v / 4096) (u % 4096) → with_cell (meant b W) (u / 4096) (v / 4096) (u % 4096) o ≡ meant b Left
  cell_removed o e =
      let C : Table → Meaning = λ f. record { shuttles = b.shuttles; moves = b.moves; capacity = b.cells; cell = f } in
      ap C (fun_ext (λ a. fun_ext (λ d. fun_ext (λ c. go a d c (cases_Bool (same_cell (u / 4096) (v / 4096) (u % 4096) a d c))))))
    where
      go : (a d c : ℕ) → (same_cell (u / 4096) (v / 4096) (u % 4096) a d c ≡ true) ⊎ (same_cell (u / 4096) (v / 4096) (u % 4096) a d c ≡ false)
          → cond (same_cell (u / 4096) (v / 4096) (u % 4096) a d c) o (cells_of W a d c) ≡ cells_of Left a d c
      go a d c (inr t) = rw t (sym (cells_without (move_of u) (move_of v) W a d c t))
      go a d c (inl t) =
          let p = same_cell_is (u / 4096) (v / 4096) (u % 4096) a d c t in
          rw t (e ∙ sym (ap (λ k. cells_of Left k d c) p.0 ∙ ap (λ k. cells_of Left (u / 4096) k c) p.1 ∙ ap (λ k. cells_of Left (u / 4096) (v / 4096) k) p.2))

  -- the cell is filled as long as the wait stands, so it can be written
  filled : In W (move_of u, move_of v) → (o : Option ℕ) → CellOf W (u / 4096) (v / 4096) (u % 4096) o → room (meant b W) o ≡ passed
  filled i None c = absurd (c (v % 4096) i)
  filled i (Some j) c = refl

  module _ (w : Waiting b.shuttles b.moves u v) (i : In W (move_of u, move_of v)) where
    cell_in : (V : Waits) → CellOf V (u / 4096) (v / 4096) (u % 4096) (cells_of V (u / 4096) (v / 4096) (u % 4096))
    cell_in V = keeps_of b.shuttles b.moves V (u / 4096) (v / 4096) (u % 4096) w.from.0 w.to.0 w.apart w.from.1

    setting : (o : Option ℕ) → o ≡ cells_of Left (u / 4096) (v / 4096) (u % 4096)
        → set_after (meant b W) (u / 4096) (v / 4096) (u % 4096) o ≡ with_cell (meant b W) (u / 4096) (v / 4096) (u % 4096) o
    setting None e =
        ap (λ q. if_done q (meant b W) (with_cell (meant b W) (u / 4096) (v / 4096) (u % 4096) None)) (sym (waiting_allowed b.shuttles b.moves u v w))
    setting (Some j) e =
        let c : CellOf Left (u / 4096) (v / 4096) (u % 4096) (Some j) = subst (CellOf Left (u / 4096) (v / 4096) (u % 4096)) (sym e) (cell_in Left) in
        let f = fits b.shuttles (lengths b) Left sound_left.ordered.0 sound_left.ordered.1 (move_of u) (v / 4096, j) c.0 in
        let q : put_answer (meant b W) (u / 4096) (v / 4096) (u % 4096) j ≡ passed =
        then_ok (taken (meant b W) (u / 4096) (v / 4096) (u % 4096)) _ (waiting_allowed b.shuttles b.moves u v w)
        ∙ then_ok (valued b.moves j) _ (sym (valued_from b.moves j f.1.1)) ∙ filled i (cells_of W (u / 4096) (v / 4096) (u % 4096)) (cell_in W) in
        ap (λ x. if_done x (meant b W) (with_cell (meant b W) (u / 4096) (v / 4096) (u % 4096) (Some j))) q

  module _ (few : b.shuttles ≤ 16) (m' : Meaning) (h' : Holding) (o : Option ℕ) where
    by_answer : (r : Result Unit Refusal) → r ≡ remove_gives b W u v → h' ≡ if_done r (listed b W) (less_wait (listed b W) u v) → (passed ≡ r → Earliest h' u (v / 4096) o)
        → m' ≡ if_done r (meant b W) (set_after (meant b W) (u / 4096) (v / 4096) (u % 4096) o) → Stands b (removed_waits W u v r) m' h'
    by_answer (Err x) g st f t = stands_by b W m' h' t st h
    by_answer (Ok x) g st f t =
        let w = wait_waiting b.shuttles b.moves u v (then_first (wait_check b.shuttles b.moves u v) _ tt g) in
        let y = unless_passed (holds W (move_of u) (move_of v)) 5 (then_second (wait_check b.shuttles b.moves u v) _ tt g) in
        let i = holds_in W (move_of u) (move_of v) y in
        let st' : h' ≡ listed b Left = st ∙ wait_removed y in
        let d : o ≡ cells_of Left (u / 4096) (v / 4096) (u % 4096) =
        earliest_is b Left sound_left u (v / 4096) (omega (arith, w.to.0)) o _ (subst (λ z. Earliest z u (v / 4096) o) st' (f refl)) (cell_in w i Left) in
        stands_by b Left m' h' (t ∙ setting w i o d ∙ cell_removed o d) st' sound_left

  pub removed_stands : b.shuttles ≤ 16 → (r : Result Unit Refusal) (m' : Meaning) (h' : Holding) → Removing (meant b W) (listed b W) u v r m' h'
      → (r ≡ remove_gives b W u v) × Stands b (removed_waits W u v r) m' h'
  removed_stands few r m' h' p = (p.answer, by_answer few m' h' p.left r p.answer p.store p.found p.table)
