-- A cell that is made to hold the earlier of two places.
use Rattle.std.proofs.Common.{◌≡◌, ℕ, ◌/◌, ◌%◌, ◌<◌, min, Bool, Some, None, Ok, Option, Result, sym, refl, ap, ◌∙◌, arith}
use Rattle.words.specs.declared.Refusal.{Refusal}
use Rattle.words.specs.Refusals.{passed, refused_if, if_done}
use Rattle.words.proofs.Checks.{then_first, then_second, then_ok}
use Rattle.tables.specs.Meaning.{Meaning, Lawful, with_cell}
use Rattle.tables.specs.Answers.{taken, valued, room, allowed, cell_answer, put_answer, put_after}
use Rattle.tables.proofs.Allowed.{allowed_from, valued_from}
use Rattle.order.specs.Rounds.{sooner}
use Rattle.stores.specs.Holding.{Holding, not_held, not_full, with_wait, add_answer, add_after}
use Rattle.questions.specs.Checks.{wait_check}
use Rattle.questions.proofs.Inside.{Waiting}
use Rattle.board.specs.Steps.{ahead, judged, Closes, earlier_cell, Placing}

pub waiting_allowed : (k n u v : ℕ) → Waiting k n u v → passed ≡ allowed k n (u / 4096) (v / 4096) (u % 4096)
waiting_allowed k n u v w = sym (allowed_from k n (u / 4096) (v / 4096) (u % 4096) (record { from_below = w.from.0; to_below = w.to.0; apart = w.apart; place_below = w.from.1 }))

earlier_below : (n j x : ℕ) (o : Option ℕ) → ((y : ℕ) → o ≡ Some y → y < n) → j < n → Some x ≡ sooner o (Some j) → x < n
earlier_below n j x None h l e = let d : x ≡ j = cc in omega arith
earlier_below n j x (Some a) h l e = let d : x ≡ min a j = cc in omega (arith, h a refl)

pub record EarlierPut (m : Meaning) (s t i j : ℕ) (r : Result Unit Refusal) (m' : Meaning) : Type 0 where
  pub answer : r ≡ room m (m.cell s t i)
  pub table : m' ≡ if_done r m (with_cell m s t i (sooner (m.cell s t i) (Some j)))

pub put_earlier_lem : (m : Meaning) → Lawful m → (s t i j : ℕ) → passed ≡ taken m s t i → j < m.moves → (old : Option ℕ) → Ok old ≡ cell_answer m s t i
    → (x : ℕ) → Some x ≡ sooner old (Some j) → (r : Result Unit Refusal) → r ≡ put_answer m s t i x → (m' : Meaning) → m' ≡ put_after m s t i x → EarlierPut m s t i j r m'
put_earlier_lem m law s t i j ok l old was x new r e m' e' =
    let a = then_second (taken m s t i) (Ok (m.cell s t i)) old was in
    let b : old ≡ m.cell s t i = cc in
    let new' : Some x ≡ sooner (m.cell s t i) (Some j) = new ∙ ap (λ o. sooner o (Some j)) b in
    let below : x < m.moves = earlier_below m.moves j x (m.cell s t i) (λ y q. law.value_below s t i y q) l new' in
    record {
      answer = e ∙ then_ok (taken m s t i) _ ok ∙ then_ok (valued m.moves x) _ (sym (valued_from m.moves x below));
      table = e' ∙ ap (λ q. if_done q m (with_cell m s t i (Some x))) (sym e) ∙ ap (λ o. if_done r m (with_cell m s t i o)) new';
    }

-- once a placement is judged and its cell is written, the store takes the wait
module _ (m : Meaning) (h : Holding) (u v : ℕ) (b : Bool) (closes : passed ≡ ahead m h u v → Closes m u v b) (ok : passed ≡ judged m h b u v) where
  abbrev cell_now : Option ℕ
  cell_now = m.cell (u / 4096) (v / 4096) (u % 4096)

  pub add_passes : passed ≡ add_answer h u v
  add_passes =
      let a = then_first (ahead m h u v) _ tt ok in
      let n = then_second (wait_check m.shuttles m.moves u v) (not_held h u v) tt a in
      let f = then_second (refused_if b 6) (not_full h) tt (then_second (ahead m h u v) _ tt ok) in
      f ∙ sym (then_ok (not_held h u v) (not_full h) n)

  pub placing_done : (m' : Meaning) → passed ≡ room m cell_now → m' ≡ earlier_cell m u v → (r : Result Unit Refusal) → r ≡ add_answer h u v → (h' : Holding) → h' ≡ add_after h u v
      → Placing m h u v r m' h'
  placing_done m' free e r ra h' e' =
      let done : passed ≡ r = add_passes ∙ sym ra in
      record {
        answer = (b, closes, sym done ∙ free ∙ sym (then_ok (judged m h b u v) (room m cell_now) ok));
        table = e ∙ ap (λ q. if_done q m (earlier_cell m u v)) done;
        store = e' ∙ ap (λ q. if_done q h (with_wait h u v)) (sym ra);
      }
