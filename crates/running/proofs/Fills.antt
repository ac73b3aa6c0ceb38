-- The moves that are written, one after the other.
use Rattle.std.proofs.Common.{◌≡◌, ℕ, ◌+◌, ◌*◌, ◌/◌, ◌%◌, ◌<◌, ◌≤◌, List, [], ◌∷◌, ◌++◌, length, get_or, take, drop, set, Some, None, Ok, sym, refl, ap, ◌∙◌, subst, inl, inr, arith, length-set}
use native.Mathlib.Decide.{dec_lt}
use Rattle.std.proofs.lemmas.List.{length-map, get_or-replicate, take_more_set, length-take-le, map_push, drop-set-lt}
use Rattle.order.specs.Lists.{In}
use Rattle.order.specs.Board.{Move, Edges, On, total}
use Rattle.order.proofs.Ways.{on_before}
use Rattle.order.proofs.Counting.{uniform}
use Rattle.order.proofs.Deciding.{in_dec, same_move}
use Rattle.running.specs.Orders.{Ready, Lowest, FirstOf, EachBy, moves_of}
use Rattle.words.specs.Codes.{move_of}
use Rattle.tables.specs.Meaning.{Meaning}
use Rattle.running.specs.Calls.{Serves}
use Rattle.running.specs.Progress.{Goes, Follows, Within, Closed, Offers, Picks, Nexts, all, Filled}
use Rattle.running.proofs.Unlisted.{ready_in, unlisted}
use Rattle.running.proofs.States.{State, each_more, ready_iff, state_more}

module _ (m : Meaning) (W : Edges) (v : Serves m W) (few : m.shuttles ≤ 16) (short : m.moves ≤ 4096) (P : List Move) (d : List ℕ) (st : State m W P d) where
  offer : (b : List ℕ) (y : Move) → Within b y → Ready m.shuttles (λ _. m.moves) W P y → Offers m d b y.0
  offer b y w h =
      let f = (ready_iff m W v P d st y).0 h in
      (f.0, subst (λ j. Within b (y.0, j)) f.2 w, subst (λ j. j < m.moves) f.2 f.1, subst (Goes m d y.0) f.2 f.3)

  offered : (b : List ℕ) (t : ℕ) → Offers m d b t → Follows m d (t, get_or d t 0)
  offered b t h = (h.0, h.2, refl, h.3)

  in_all : (x : Move) → On m.shuttles (λ _. m.moves) x → Within all x
  in_all x on = omega (arith, get_or-replicate {A = ℕ} 16 x.0 4096 0 (omega (arith, on.0)), on.1)

  all_closed : Closed m.shuttles (λ _. m.moves) W all
  all_closed x y on w p = in_all y (on_before m.shuttles (λ _. m.moves) W v.1.0 v.1.1 p on)

  lowest : (b : List ℕ) (t : ℕ) → Picks m d b (Some t) → Lowest m.shuttles (λ _. m.moves) W (Within b) P (t, get_or d t 0)
  lowest b t h = (h.0.1, (ready_iff m W v P d st (t, get_or d t 0)).1 (offered b t h.0), λ y l w r. h.1 y.0 l (offer b y w r))

  listed : (b : List ℕ) → Closed m.shuttles (λ _. m.moves) W b → Picks m d b None → (y : Move) → On m.shuttles (λ _. m.moves) y → Within b y → In P y
  listed b cl h y on w =
      elim (in_dec same_move P y) [
        | yes i ↦ i
        | no f ↦ let r = ready_in m.shuttles (λ _. m.moves) W v.1 P (Within b) (λ z. dec_lt z.1 (get_or b z.0 0)) cl y on w f in absurd (h r.0.0 (offer b r.0 r.1 r.2))
      ]

  first_of : (b : List ℕ) → Closed m.shuttles (λ _. m.moves) W b → (t : ℕ) → Nexts m d b (Some t) → FirstOf m.shuttles (λ _. m.moves) W (Within b) P (t, get_or d t 0)
  first_of b cl t (inl h) = inl (lowest b t h)
  first_of b cl t (inr h) = let l = lowest all t h.1 in inr (listed b cl h.0, (l.1, λ y g r. l.2 y g (in_all y r.0.0) r))

  never_none : length P < m.shuttles * m.moves → Picks m d all None → ⊥
  never_none l h =
      let x = unlisted m.shuttles (λ _. m.moves) P (omega (arith, uniform m.shuttles m.moves)) in
      x.2 (listed all all_closed h x.0 x.1 (in_all x.0 x.1))

-- what is kept of the moves P that are written and the counts d, whatever the waits
abbrev Kept : Meaning → List ℕ → List Move → List ℕ → Type 0
Kept m b P d =
    (W : Edges) → Serves m W → Closed m.shuttles (λ _. m.moves) W b → State m W P d × EachBy (FirstOf m.shuttles (λ _. m.moves) W (Within b)) P

next_follows : (m : Meaning) (d b : List ℕ) (t : ℕ) → Nexts m d b (Some t) → Follows m d (t, get_or d t 0)
next_follows m d b t (inl h) = (h.0.0, h.0.2, refl, h.0.3)
next_follows m d b t (inr h) = (h.1.0.0, h.1.0.2, refl, h.1.0.3)

module _ (m : Meaning) (few : m.shuttles ≤ 16) (short : m.moves ≤ 4096) (b d out : List ℕ) (p : ℕ) (l : p < length out) (h : Kept m b (moves_of (take p out)) d) where
  kept_more : length d ≡ 16 → (t : ℕ) → Nexts m d b (Some t) → Kept m b (moves_of (take (p + 1) (set out p (t * 4096 + get_or d t 0)))) (set d t (get_or d t 0 + 1))
  kept_more len t nx W v cl =
      let s = h W v cl in
      subst (λ P. State m W P (set d t (get_or d t 0 + 1)) × EachBy (FirstOf m.shuttles (λ _. m.moves) W (Within b)) P) (sym written) (
        state_more m W v (moves_of (take p out)) d s.0 len few (t, get_or d t 0) (next_follows m d b t nx),
        each_more (FirstOf m.shuttles (λ _. m.moves) W (Within b)) (moves_of (take p out)) (t, get_or d t 0) s.1 (first_of m W v few short (moves_of (take p out)) d s.0 b cl t nx),
      )
    where
      code : move_of (t * 4096 + get_or d t 0) ≡ (t, get_or d t 0)
      code =
          let f = next_follows m d b t nx in
          let a : (t * 4096 + get_or d t 0) / 4096 ≡ t = omega (arith, f.1) in
          let e : (t * 4096 + get_or d t 0) % 4096 ≡ get_or d t 0 = omega (arith, f.1) in
          (λ i. (a i, e i))

      written : moves_of (take (p + 1) (set out p (t * 4096 + get_or d t 0))) ≡ moves_of (take p out) ++ (t, get_or d t 0) ∷ []
      written = ap moves_of (take_more_set out p (t * 4096 + get_or d t 0) l) ∙ map_push move_of (take p out) (t * 4096 + get_or d t 0) ∙ ap (λ y. moves_of (take p out) ++ y ∷ []) code

  kept_never : p < m.shuttles * m.moves → Nexts m d b None → (P : List Move) (e : List ℕ) → Kept m b P e
  kept_never lt nx P e W v cl =
      absurd (never_none m W v few short (moves_of (take p out)) d (h W v cl).0 (omega (arith, length-map (take p out) move_of, length-take-le p out (omega arith))) nx)

-- what a turn of the loop keeps
abbrev pub Turn : Meaning → List ℕ → ℕ → List ℕ → List ℕ → List ℕ → ℕ → Type 0
Turn m b total old out d p = (length d ≡ 16) × (length out ≡ length old) × (drop total out ≡ drop total old) × Kept m b (moves_of (take p out)) d

module _
    (m : Meaning) (few : m.shuttles ≤ 16) (short : m.moves ≤ 4096) (b old : List ℕ) (total : ℕ) (d out : List ℕ) (p : ℕ) (l : p < total) (le : total ≤ length old)
    (h : Turn m b total old out d p)
  where
    pub turn_more : (t : ℕ) → Nexts m d b (Some t) → (d' out' : List ℕ) → d' ≡ set d t (get_or d t 0 + 1) → out' ≡ set out p (t * 4096 + get_or d t 0) → Turn m b total old out' d' (p + 1)
    turn_more t nx d' out' e f =
        subst (λ z. Turn m b total old z d' (p + 1)) (sym f)
        (subst (λ z. Turn m b total old (set out p (t * 4096 + get_or d t 0)) z (p + 1)) (sym e)
        (length-set d t _ ∙ h.0, length-set out p _ ∙ h.1, drop-set-lt total out p _ l ∙ h.2, kept_more m few short b d out p (omega (arith, h.1)) h.3 h.0 t nx))

    pub turn_never : total ≡ m.shuttles * m.moves → Nexts m d b None → (d' out' : List ℕ) → d' ≡ d → out' ≡ out → Turn m b total old out' d' (p + 1)
    turn_never eq nx d' out' e f =
        (ap length e ∙ h.0, ap length f ∙ h.1, ap (drop total) f ∙ h.2, kept_never m few short b d out p (omega (arith, h.1)) h.3 (omega (arith, eq)) nx (moves_of (take (p + 1) out')) d')

pub filled_end : (m : Meaning) (b old : List ℕ) (total : ℕ) (d out : List ℕ) (p : ℕ) → p ≡ total → total ≤ length old → total ≡ m.shuttles * m.moves → Turn m b total old out d p
    → Filled m b old out (Ok total)
filled_end m b old total d out p e le eq h = (
  eq,
  omega (arith, eq),
  h.1,
  subst (λ z. drop z out ≡ drop z old) eq h.2,
  λ W v cl. subst (λ z. EachBy (FirstOf m.shuttles (λ _. m.moves) W (Within b)) (moves_of (take z out))) (e ∙ eq) (h.3 W v cl).1,
)
