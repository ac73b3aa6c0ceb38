-- The bounds of a move, by what the questions of it find.
use Rattle.std.proofs.Common.{◌≡◌, ℕ, ◌+◌, ◌*◌, ◌/◌, ◌%◌, ◌<◌, ◌≤◌, ◌↔◌, List, length, get_or, set, Some, None, Ok, Err, Option, Result, sym, refl, ap, ◌∙◌, subst, inl, inr, arith, get_or-set_other, get_or-set_same}
use native.Mathlib.Decide.{ℕ_discrete}
use Rattle.std.proofs.lemmas.Bool.{lt-ltb}
use Rattle.words.specs.declared.Refusal.{Refusal}
use Rattle.words.specs.Refusals.{passed, then, unless}
use Rattle.words.specs.Codes.{move_of}
use Rattle.words.proofs.Checks.{then_ok}
use Rattle.order.specs.Lists.{there}
use Rattle.order.specs.Board.{Edges, On, Before}
use Rattle.order.specs.Rounds.{LastBefore, From}
use Rattle.order.proofs.Before.{finds_back, tells_back}
use Rattle.order.proofs.Ways.{no_back, on_before}
use Rattle.tables.specs.Meaning.{Meaning}
use Rattle.questions.specs.declared.rounds.Way.TheVariants.{Before as Ahead}
use Rattle.questions.specs.Checks.{shuttle_check, move_check, moves_check, question_check}
use Rattle.questions.specs.Asking.{coded, Finding, Asked}
use Rattle.questions.proofs.Inside.{move_on}
use Rattle.running.specs.Calls.{last_look, Serves}
use Rattle.running.specs.Progress.{Counts, Reach, count_of}

module _ (m : Meaning) (W : Edges) (h : Serves m W) (v t : ℕ) (on : On m.shuttles (λ _. m.moves) (move_of v)) (lt : t < m.shuttles) where
  last_before : (o : Option ℕ) (c : ℕ) → Finding Ahead m v t o c → (p : Option ℕ) × (o ≡ coded t p) × LastBefore m.shuttles (λ _. m.moves) W (move_of v) t p
  last_before o c (inl e) =
      let code : v ≡ t * 4096 + v % 4096 = omega (arith, e.0) in
      (Some (v % 4096), e.1 ∙ ap Some code, subst (λ x. LastBefore m.shuttles (λ _. m.moves) W (move_of v) x (Some (v % 4096))) e.0 own)
    where
      own : LastBefore m.shuttles (λ _. m.moves) W (move_of v) (v / 4096) (Some (v % 4096))
      own = (
        there refl,
        λ j p. no_back m.shuttles (λ _. m.moves) W h.1.0 h.1.1 (v / 4096) j (v % 4096) (on_before m.shuttles (λ _. m.moves) W h.1.0 h.1.1 p on) p,
      )
  last_before o c (inr e) =
      let f = e.1 in
      let r = f.2 in (
        f.0,
        f.1,
        subst (LastBefore m.shuttles (λ _. m.moves) W (move_of v) t) (sym r.2.4)
            (finds_back m.shuttles (λ _. m.moves) W h.1 (last_look m) h.0 (v / 4096) (v % 4096) on r.0 r.1 r.2.0 r.2.2 t lt),
      )

  -- a place of the board is told by its code
  counted : m.moves ≤ 4096 → (p : Option ℕ) → LastBefore m.shuttles (λ _. m.moves) W (move_of v) t p → (j : ℕ) → From p j ↔ (j < count_of (Ok (coded t p)))
  counted short None l j = (λ e. absurd e, λ g. omega arith)
  counted short (Some p) l j =
      let b = on_before m.shuttles (λ _. m.moves) W h.1.0 h.1.1 l.0 on in
      let e : (t * 4096 + p) % 4096 ≡ p = omega (arith, b.1) in
      (λ g. omega (arith, e), λ g. omega (arith, e))

asked_passed : (k n v t : ℕ) → passed ≡ move_check k n v → t < k → question_check k n v t ≡ passed
asked_passed k n v t ok lt = then_ok (move_check k n v) (shuttle_check k t) ok ∙ ap (λ b. unless b 1) (lt-ltb t k lt)

pub counts : (m : Meaning) → m.moves ≤ 4096 → (v t : ℕ) (a : Result (Option ℕ) Refusal) (c : ℕ) → Asked Ahead m v t a c → Counts m v t (count_of a)
counts m short v t (Ok o) c g = record { tells = says }
  where
    says : passed ≡ move_check m.shuttles m.moves v → t < m.shuttles → (W : Edges) → Serves m W → (j : ℕ)
        → Before m.shuttles (λ _. m.moves) W (t, j) (move_of v) ↔ (j < count_of (Ok o))
    says ok lt W h j =
        let on = move_on m.shuttles m.moves v ok in
        let f = last_before m W h v t on lt o c g.1 in
        let a = tells_back m.shuttles (λ _. m.moves) W (move_of v) t f.0 f.2 on h.1 j lt in
        let b = counted m W h v t on lt short f.0 f.2 j in
        subst (λ x. Before m.shuttles (λ _. m.moves) W (t, j) (move_of v) ↔ (j < count_of (Ok x))) (sym f.1) (λ p. b.0 (a.0 p), λ l. a.1 (b.1 l))
counts m short v t (Err e) c g = record { tells = λ ok lt. never (g.0 ∙ asked_passed m.shuttles m.moves v t ok lt) }
  where
    never : {A : Type 0} → Err e ≡ passed → A
    never q = let z : ◌≡◌ {A = ℕ} 0 1 = cc in absurd (omega arith)

-- one more bound is written
pub counts_more : (m : Meaning) (v r c : ℕ) (b : List ℕ) → r < length b → ((q : ℕ) → q < r → Counts m v q (get_or b q 0)) → Counts m v r c → (q : ℕ) → q < r + 1
    → Counts m v q (get_or (set b r c) q 0)
counts_more m v r c b l h g q lq =
    elim (ℕ_discrete q r) [
      | yes e ↦ subst (λ z. Counts m v z (get_or (set b r c) z 0)) (sym e) (subst (Counts m v r) (sym (get_or-set_same b r c 0 l)) g)
      | no ne ↦ subst (Counts m v q) (sym (get_or-set_other b r q c 0 ne)) (h q (omega arith))
    ]

pub reaches : (m : Meaning) (v : ℕ) (b : List ℕ) → ((q : ℕ) → q < m.shuttles → Counts m v q (get_or b q 0)) → Reach m v b
reaches m v b h = record { bounds = λ ok W s x on. (h x.0 on.0).tells ok on.0 W s x.1 }

-- a move that is checked twice is checked once
pub checked_twice : (k n v : ℕ) → moves_check k n v v ≡ move_check k n v
checked_twice k n v = twice (move_check k n v)
  where
    twice : (a : Result Unit Refusal) → then a a ≡ a
    twice (Ok u) = refl
    twice (Err e) = refl
