-- The loop over the steps: the answers so far, the law of the calls among them, and their lines in the buffer.
use Rattle.std.proofs.Common.{◌≡◌, ℕ, zero, suc, ◌+◌, ◌*◌, ◌<◌, ◌≤◌, List, [], ◌∷◌, ◌++◌, length, get_or, drop, Fits, w8, Some, None, Option, sym, refl, ap, ◌∙◌, subst, append_assoc, append-nil, add-one, arith, length-append}
use Rattle.tables.specs.Meaning.{Meaning}
use Rattle.stores.specs.Holding.{Holding}
use Rattle.board.specs.Standing.{Limits, Stands}
use Rattle.runs.specs.declared.calls.Ask.{Ask}
use Rattle.runs.specs.Law.{Outcome, Event, standing, Law, StepKeeps}
use Rattle.runs.proofs.Stepping.{upright}
use Rattle.runs.proofs.Runs.{law_none, law_more, standing_snoc}
use Rattle.station.specs.Text.{Pours}
use Rattle.station.specs.Edit.{number_at, shuttles_of, moves_of, count_of, step_at, steps_below, header_told}
use Rattle.station.specs.declared.edit.Header.{Header}
use Rattle.station.specs.Report.{line, lines_from, first_line, report_of}
use Rattle.station.specs.Station.{events, UnknownRefused, Reported, StepTaken}
use Rattle.station.proofs.Pouring.{pours_more, pours_same, poured_front}
use Rattle.station.proofs.Short.{Small, line_short, first_line_short, answered_small}

-- a call that has no slice
pub step_taken : (m m' : Meaning) (h h' : Holding) (s : Option Ask) (q : Ask) (a : Outcome) (old new : List ℕ) → StepKeeps m h q old a new m' h' → length old ≡ 0 → length new ≡ 0 → s ≡ Some q → StepTaken m h s a m' h'
step_taken m m' h h' s q a [] [] k e d i = subst (λ x. StepTaken m h x a m' h') (sym i) k
step_taken m m' h h' s q a [] (y ∷ new) k e d i = absurd (omega arith)
step_taken m m' h h' s q a (x ∷ old) new k e d i = absurd (omega arith)

-- one step more

length_steps : (file : List ℕ) (c : ℕ) → length (steps_below file c) ≡ c
length_steps file zero = refl
length_steps file (suc c) = length-append (steps_below file c) (step_at file c ∷ []) ∙ omega (arith, length_steps file c)

events_more : (steps : List (Option Ask)) (answers : List Outcome) → length answers ≡ length steps → (s : Option Ask) (a : Outcome)
    → events (steps ++ s ∷ []) (answers ++ a ∷ []) ≡ events steps answers ++ events (s ∷ []) (a ∷ [])
events_more [] [] e s a = refl
events_more [] (x ∷ answers) e s a = absurd (omega arith)
events_more (y ∷ steps) [] e s a = absurd (omega arith)
events_more (None ∷ steps) (x ∷ answers) e s a = events_more steps answers (omega arith) s a
events_more (Some q ∷ steps) (x ∷ answers) e s a = ap (λ es. record { ask = q; given = []; answer = x; left = [] } ∷ es) (events_more steps answers (omega arith) s a)

unknown_more : (steps : List (Option Ask)) (answers : List Outcome) → length answers ≡ length steps → (s : Option Ask) (a : Outcome)
    → UnknownRefused steps answers → UnknownRefused (s ∷ []) (a ∷ []) → UnknownRefused (steps ++ s ∷ []) (answers ++ a ∷ [])
unknown_more [] [] e s a u v = v
unknown_more [] (x ∷ answers) e s a u v = absurd (omega arith)
unknown_more (y ∷ steps) [] e s a u v = absurd (omega arith)
unknown_more (None ∷ steps) (x ∷ answers) e s a u v = (u.0, unknown_more steps answers (omega arith) s a u.1 v)
unknown_more (Some q ∷ steps) (x ∷ answers) e s a u v = unknown_more steps answers (omega arith) s a u v

lines_more : (i : ℕ) (answers : List Outcome) (a : Outcome) → lines_from i (answers ++ a ∷ []) ≡ lines_from i answers ++ line (i + length answers) a
lines_more i [] a = let e : i ≡ i + 0 = omega arith in append-nil (line i a) ∙ ap (λ n. line n a) e
lines_more i (x ∷ answers) a =
    let e : suc i + length answers ≡ i + suc (length answers) = omega arith in
    ap (λ bs. line i x ++ bs) (lines_more (suc i) answers a ∙ ap (λ n. lines_from (suc i) answers ++ line n a) e)
    ∙ sym (append_assoc (line i x) (lines_from (suc i) answers) (line (i + suc (length answers)) a))

-- the first i steps are carried out, their lines are written up to `at`, and the board stands as they left it
pub record Going (b : Limits) (file old : List ℕ) (i at : ℕ) (out : List ℕ) (m : Meaning) (h : Holding) : Type 0 where
  pub answers : List Outcome
  pub size : length answers ≡ i
  pub unknown : UnknownRefused (steps_below file i) answers
  pub law : Law b (events (steps_below file i) answers)
  pub stands : Stands b (standing (events (steps_below file i) answers)) m h
  pub written : Pours old 0 (report_of (shuttles_of file) (moves_of file) (count_of file) answers) out at
  pub room : at ≤ 24 * (i + 1)

module _ (b : Limits) (file old : List ℕ) where
  -- the first line tells the file's header
  pub going_none : (x : Header) → x ≡ header_told file → ((p : ℕ) → Fits w8 (get_or file p 0))
      → (m : Meaning) (h : Holding) (out : List ℕ) (at : ℕ) → Stands b [] m h → Pours old 0 (first_line x.aisle.shuttles x.aisle.moves x.steps) out at → Going b file old 0 at out m h
  going_none x e fit m h out at st p = record {
    answers = [];
    size = refl;
    unknown = tt;
    law = law_none b (upright b [] st.sound);
    stands = st;
    written = pours_same
        (append-nil (first_line (shuttles_of file) (moves_of file) (count_of file))
        ∙ sym (ap (λ (y : Header). first_line y.aisle.shuttles y.aisle.moves y.steps) e))
        p;
    room = omega (arith, p.next, first_line_short x.aisle.shuttles x.aisle.moves x.steps (fits_in 0 x.aisle.shuttles (ap (λ (y : Header). y.aisle.shuttles) e)) (fits_in 2 x.aisle.moves (ap (λ (y : Header). y.aisle.moves) e)) (fits_in 4 x.steps (ap (λ (y : Header). y.steps) e)));
  }
    where
      fits_in : (q y : ℕ) → y ≡ number_at file q → y < 65536
      fits_in q y is = omega (arith, fit q, fit (q + 1))

  module _ {i at : ℕ} {out : List ℕ} {m : Meaning} {h : Holding} (g : Going b file old i at out m h) (few : b.shuttles ≤ 16) where
    same_size : length g.answers ≡ length (steps_below file i)
    same_size = g.size ∙ sym (length_steps file i)

    abbrev before_it : List Event
    before_it = events (steps_below file i) g.answers

    -- the answer is small, so that its line has at most 24 bytes
    taken_small : (s : Option Ask) (a : Outcome) (m' : Meaning) (h' : Holding) → StepTaken m h s a m' h' → Small a
    taken_small None a m' h' t = subst Small (sym t.0) tt
    taken_small (Some q) a m' h' t = answered_small b (standing before_it) g.stands.sound few q [] a [] (t.keeps b (standing before_it) g.stands).0

    abbrev More : Option Ask → Outcome → Meaning → Holding → Type 0
    More s a m' h' =
        UnknownRefused (s ∷ []) (a ∷ []) × Law b (before_it ++ events (s ∷ []) (a ∷ [])) × Stands b (standing (before_it ++ events (s ∷ []) (a ∷ []))) m' h'

    more : (s : Option Ask) (a : Outcome) (m' : Meaning) (h' : Holding) → StepTaken m h s a m' h' → More s a m' h'
    more None a m' h' t = (
      (t.0, tt),
      subst (Law b) (sym (append-nil before_it)) g.law,
      subst (λ es. Stands b (standing es) m' h') (sym (append-nil before_it))
          (subst (λ x. Stands b (standing before_it) x h') (sym t.1) (subst (λ x. Stands b (standing before_it) m x) (sym t.2) g.stands)),
    )
    more (Some q) a m' h' t =
        let k = t.keeps b (standing before_it) g.stands in (
          tt,
          law_more b before_it (record { ask = q; given = []; answer = a; left = [] }) g.law k.0 (upright b _ k.1.sound),
          subst (λ V. Stands b V m' h') (sym (standing_snoc [] before_it (record { ask = q; given = []; answer = a; left = [] }))) k.1,
        )

    pub going_more : (a : Outcome) (m' : Meaning) (h' : Holding) (out' : List ℕ) (at' : ℕ) → i < 9999 → StepTaken m h (step_at file i) a m' h' → Pours out at (line (i + 1) a) out' at'
        → Going b file old (i + 1) at' out' m' h'
    going_more a m' h' out' at' li t p =
        let x = more (step_at file i) a m' h' t in
        let e : events (steps_below file (i + 1)) (g.answers ++ a ∷ []) ≡ before_it ++ events (step_at file i ∷ []) (a ∷ []) =
        ap (λ n. events (steps_below file n) (g.answers ++ a ∷ [])) (add-one i) ∙ events_more (steps_below file i) g.answers same_size (step_at file i) a in
        let n : 1 + length g.answers ≡ i + 1 = omega (arith, g.size) in
        record {
          answers = g.answers ++ a ∷ [];
          size = length-append g.answers (a ∷ []) ∙ omega (arith, g.size);
          unknown = subst (λ c. UnknownRefused (steps_below file c) (g.answers ++ a ∷ [])) (sym (add-one i)) (unknown_more (steps_below file i) g.answers same_size (step_at file i) a g.unknown x.0);
          law = subst (Law b) (sym e) x.1;
          stands = subst (λ es. Stands b (standing es) m' h') (sym e) x.2;
          written = pours_same
              (ap (λ bs. first_line (shuttles_of file) (moves_of file) (count_of file) ++ bs) (lines_more 1 g.answers a ∙ ap (λ c. lines_from 1 g.answers ++ line c a) n)
              ∙ sym (append_assoc (first_line (shuttles_of file) (moves_of file) (count_of file)) (lines_from 1 g.answers) (line (i + 1) a)))
              (pours_more g.written p);
          room = omega (arith, g.room, p.next, line_short (i + 1) a (omega arith) (taken_small (step_at file i) a m' h' t));
        }

    pub going_ends : i ≡ count_of file → 24 * (count_of file + 1) ≤ length old → Reported b file old out at
    going_ends e l =
        let s : at ≡ length (report_of (shuttles_of file) (moves_of file) (count_of file) g.answers) = omega (arith, g.written.next) in
        record {
          answers = g.answers;
          replied = record {
            size = same_size ∙ ap (λ c. length (steps_below file c)) e;
            unknown = subst (λ c. UnknownRefused (steps_below file c) g.answers) e g.unknown;
            law = subst (λ c. Law b (events (steps_below file c) g.answers)) e g.law;
          };
          size = s;
          bytes = g.written.bytes ∙ poured_front old (report_of (shuttles_of file) (moves_of file) (count_of file) g.answers) (omega (arith, g.room))
              ∙ ap (λ c. report_of (shuttles_of file) (moves_of file) (count_of file) g.answers ++ drop c old) (sym s);
        }
