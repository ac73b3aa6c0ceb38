-- The law leaves one report of a file, so the kinds report alike.
use Rattle.std.proofs.Common.{◌≡◌, ℕ, ◌+◌, ◌*◌, ◌≤◌, leb, List, [], ◌∷◌, ◌++◌, length, drop, Some, None, Ok, Err, Option, Result, sym, refl, ap, ◌∙◌, subst, arith}
use Rattle.std.proofs.lemmas.Bool.{le-leb}
use Rattle.words.specs.declared.Refusal.{Refusal}
use Rattle.words.specs.Refusals.{then, unless}
use Rattle.board.specs.Standing.{Limits}
use Rattle.runs.specs.declared.calls.Ask.{Ask}
use Rattle.runs.specs.Law.{Outcome, Event, SameCalls}
use Rattle.runs.proofs.Outcome.{one_outcome}
use Rattle.station.specs.Edit.{shuttles_of, moves_of, count_of, steps_of, well_formed, sizes_taken, file_check}
use Rattle.station.specs.Report.{report_of}
use Rattle.station.specs.Station.{events, UnknownRefused, Replied, Reported, station_limits, MadeWhere, Reports, KindsAlike, AnswersBy, Station, ReportsAlike}

-- the same steps make the same calls, whatever they are answered
same_calls : (steps : List (Option Ask)) (xs ys : List Outcome) → length xs ≡ length steps → length ys ≡ length steps → SameCalls (events steps xs) (events steps ys)
same_calls [] xs ys n m = tt
same_calls (s ∷ steps) [] ys n m = absurd (omega arith)
same_calls (s ∷ steps) (x ∷ xs) [] n m = absurd (omega arith)
same_calls (None ∷ steps) (x ∷ xs) (y ∷ ys) n m = same_calls steps xs ys (omega arith) (omega arith)
same_calls (Some q ∷ steps) (x ∷ xs) (y ∷ ys) n m = (refl, refl, same_calls steps xs ys (omega arith) (omega arith))

-- the events tell the answers, but for the steps whose kind is not known
same_answers : (steps : List (Option Ask)) (xs ys : List Outcome) → length xs ≡ length steps → length ys ≡ length steps
    → UnknownRefused steps xs → UnknownRefused steps ys → events steps xs ≡ events steps ys → xs ≡ ys
same_answers [] [] [] n m u v e = refl
same_answers [] [] (y ∷ ys) n m u v e = absurd (omega arith)
same_answers [] (x ∷ xs) ys n m u v e = absurd (omega arith)
same_answers (s ∷ steps) [] ys n m u v e = absurd (omega arith)
same_answers (s ∷ steps) (x ∷ xs) [] n m u v e = absurd (omega arith)
same_answers (None ∷ steps) (x ∷ xs) (y ∷ ys) n m u v e =
    let here : x ≡ y = u.0 ∙ sym v.0 in
    let rest : xs ≡ ys = same_answers steps xs ys (omega arith) (omega arith) u.1 v.1 e in
    (λ i. here i ∷ rest i)
same_answers (Some q ∷ steps) (x ∷ xs) (y ∷ ys) n m u v e =
    let one : ◌≡◌ {A = Event} (record { ask = q; given = []; answer = x; left = [] }) (record { ask = q; given = []; answer = y; left = [] }) = cc in
    let here : x ≡ y = ap (λ f. f.answer) one in
    let more : events steps xs ≡ events steps ys = cc in
    let rest : xs ≡ ys = same_answers steps xs ys (omega arith) (omega arith) u v more in
    (λ i. here i ∷ rest i)

one_replied : (b : Limits) (steps : List (Option Ask)) (xs ys : List Outcome) → Replied b steps xs → Replied b steps ys → xs ≡ ys
one_replied b steps xs ys g h =
    same_answers steps xs ys g.size h.size g.unknown h.unknown
    (one_outcome b (events steps xs) (events steps ys) (same_calls steps xs ys g.size h.size) g.law h.law)

one_report : (b : Limits) (file old new new' : List ℕ) (r r' : ℕ) → Reported b file old new r → Reported b file old new' r' → (new' ≡ new) × (r' ≡ r)
one_report b file old new new' r r' g h =
    let e : h.answers ≡ g.answers = one_replied b (steps_of file) h.answers g.answers h.replied g.replied in
    let R : List Outcome → List ℕ = report_of (shuttles_of file) (moves_of file) (count_of file) in
    let n : r' ≡ r = h.size ∙ ap (λ l. length (R l)) e ∙ sym g.size in
    (h.bytes ∙ ap (λ l. R l ++ drop r' old) e ∙ ap (λ c. R g.answers ++ drop c old) n ∙ sym g.bytes, n)

one_answer : (q : Result Unit Refusal) (file old new new' : List ℕ) (r r' : ℕ) → AnswersBy q file old new r → AnswersBy q file old new' r' → (new' ≡ new) × (r' ≡ r)
one_answer (Ok x) file old new new' r r' g h = one_report (station_limits file) file old new new' r r' g h
one_answer (Err e) file old new new' r r' g h = (h.1 ∙ sym g.1, h.0 ∙ sym g.0)

one_made : (q : Result Unit Refusal) (file old new new' : List ℕ) (a a' : Result ℕ Refusal) → MadeWhere q file old new a → MadeWhere q file old new' a' → (new' ≡ new) × (a' ≡ a)
one_made (Ok x) file old new new' a a' g h =
    let e = one_report (station_limits file) file old new new' g.0 h.0 g.2.reported h.2.reported in
    (e.0, h.1 ∙ ap (λ (r : ℕ). Ok r) e.1 ∙ sym g.1)
one_made (Err e) file old new new' a a' g h = (h.1 ∙ sym g.1, h.0 ∙ sym g.0)

-- the checks do not tell the kinds apart
same_check : (kind kind' : ℕ) (file : List ℕ) (room : ℕ) → kind ≤ 1 → kind' ≤ 1 → file_check kind' file room ≡ file_check kind file room
same_check kind kind' file room l l' =
    ap (λ b. then (unless b 12) (then (unless (well_formed file) 10) (then (unless (sizes_taken file) 11) (unless (leb (24 * (count_of file + 1)) room) 9))))
    (le-leb kind' 1 l' ∙ sym (le-leb kind 1 l))

pub kinds_alike : (kind : ℕ) (file old new : List ℕ) (a : Result ℕ Refusal) → Reports kind file old new a → KindsAlike kind file old new a
kinds_alike kind file old new a g = record {
  alike = λ kind' new' a' l l' h.
      one_made (file_check kind file (length old)) file old new new' a a' g
      (subst (λ q. MadeWhere q file old new' a') (same_check kind kind' file (length old) l l') h);
}

pub reports_alike : (kind : ℕ) (file old new : List ℕ) (r : ℕ) → Station kind file old new r → ReportsAlike kind file old new r
reports_alike kind file old new r g = record {
  alike = λ kind' new' r' l l' h.
      one_answer (file_check kind file (length old)) file old new new' r r' g
      (subst (λ q. AnswersBy q file old new' r') (same_check kind kind' file (length old) l l') h);
}
