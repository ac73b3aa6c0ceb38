-- What the station answers: the report of a run that has the law.
use Rattle.std.specs.Prelude.{◌≡◌, ℕ, ◌+◌, ◌-◌, ◌*◌, ◌≤◌, true, List, [], ◌∷◌, ◌++◌, length, drop, Some, None, Ok, Err, Option, Result}
use Rattle.words.specs.declared.Refusal.{Refusal}
use Rattle.words.specs.Refusals.{refused, number_of}
use Rattle.tables.specs.Meaning.{Meaning, full_meaning}
use Rattle.stores.specs.Holding.{Holding}
use Rattle.board.specs.Standing.{Limits}
use Rattle.runs.specs.declared.calls.Ask.{Ask}
use Rattle.runs.specs.Law.{Outcome, Event, Law, StepKeeps}
use Rattle.station.specs.Edit.{shuttles_of, moves_of, count_of, steps_of, file_check, well_formed, sizes_taken}
use Rattle.station.specs.Report.{report_of}

-- the calls among some steps, with their answers; none of them has a slice
abbrev pub events : List (Option Ask) → List Outcome → List Event
events [] answers = []
events (s ∷ steps) [] = []
events (None ∷ steps) (a ∷ answers) = events steps answers
events (Some q ∷ steps) (a ∷ answers) = record { ask = q; given = []; answer = a; left = [] } ∷ events steps answers

-- each step whose kind is not known is refused with 10
abbrev pub UnknownRefused : List (Option Ask) → List Outcome → Type 0
UnknownRefused [] answers = Unit {0}
UnknownRefused (s ∷ steps) [] = Unit {0}
UnknownRefused (None ∷ steps) (a ∷ answers) = (a ≡ refused 10) × UnknownRefused steps answers
UnknownRefused (Some q ∷ steps) (a ∷ answers) = UnknownRefused steps answers

-- every step has its answer, and the calls among them are a run that has the law
pub record Replied (b : Limits) (steps : List (Option Ask)) (answers : List Outcome) : Type 0 where
  pub size : length answers ≡ length steps
  pub unknown : UnknownRefused steps answers
  pub law : Law b (events steps answers)

-- the report of such a run stands at the front of the buffer, and the bytes behind it are as they were
pub record Reported (b : Limits) (file old new : List ℕ) (r : ℕ) : Type 0 where
  pub answers : List Outcome
  pub replied : Replied b (steps_of file) answers
  pub size : r ≡ length (report_of (shuttles_of file) (moves_of file) (count_of file) answers)
  pub bytes : new ≡ report_of (shuttles_of file) (moves_of file) (count_of file) answers ++ drop r old

-- the limits of the station's board: a table of the file's sizes that can fill every cell, and 1,024 records for the waits
abbrev pub station_limits : List ℕ → Limits
station_limits file = record {
  shuttles = shuttles_of file;
  moves = moves_of file;
  cells = shuttles_of file * (shuttles_of file - 1) * moves_of file;
  waits = 1024;
}

-- the report of a file, and that it has at most 24 bytes for the first line and for each step
pub record Made (file old new : List ℕ) (r : ℕ) : Type 0 where
  pub reported : Reported (station_limits file) file old new r
  pub short : r ≤ 24 * (count_of file + 1)

-- where the checks are passed the report is made, and its length is the answer; where they are not, the answer is the refusal, and the buffer is as it was
abbrev pub MadeWhere : Result Unit Refusal → List ℕ → List ℕ → List ℕ → Result ℕ Refusal → Type 0
MadeWhere (Ok x) file old new a = (r : ℕ) × (a ≡ Ok r) × Made file old new r
MadeWhere (Err e) file old new a = (a ≡ Err e) × (new ≡ old)

-- the whole call, its answer as a result
abbrev pub Reports : ℕ → List ℕ → List ℕ → List ℕ → Result ℕ Refusal → Type 0
Reports kind file old new a = MadeWhere (file_check kind file (length old)) file old new a

-- the kinds report alike: what the call answers over a table of another kind is this answer, and leaves the buffer so
pub record KindsAlike (kind : ℕ) (file old new : List ℕ) (a : Result ℕ Refusal) : Type 0 where
  pub alike : (kind' : ℕ) (new' : List ℕ) (a' : Result ℕ Refusal) → kind ≤ 1 → kind' ≤ 1 → Reports kind' file old new' a' → (new' ≡ new) × (a' ≡ a)

-- the same with the answer as a number, for callers outside the library

-- the report's length where the call is taken; 2,147,483,648 plus the refusal where it is not, and the buffer as it was
abbrev pub AnswersBy : Result Unit Refusal → List ℕ → List ℕ → List ℕ → ℕ → Type 0
AnswersBy (Ok x) file old new r = Reported (station_limits file) file old new r
AnswersBy (Err e) file old new r = (r ≡ 2147483648 + number_of e) × (new ≡ old)

-- the whole call, its answer as a number
abbrev pub Station : ℕ → List ℕ → List ℕ → List ℕ → ℕ → Type 0
Station kind file old new r = AnswersBy (file_check kind file (length old)) file old new r

-- the kinds report alike, as numbers too
pub record ReportsAlike (kind : ℕ) (file old new : List ℕ) (r : ℕ) : Type 0 where
  pub alike : (kind' : ℕ) (new' : List ℕ) (r' : ℕ) → kind ≤ 1 → kind' ≤ 1 → Station kind' file old new' r' → (new' ≡ new) × (r' ≡ r)

-- one step on a board
abbrev pub StepTaken : Meaning → Holding → Option Ask → Outcome → Meaning → Holding → Type 0
StepTaken m h None a m' h' = (a ≡ refused 10) × (m' ≡ m) × (h' ≡ h)
StepTaken m h (Some q) a m' h' = StepKeeps m h q [] a [] m' h'

-- a file that is taken, and a buffer of so many bytes that has room for its report
pub record Taken (file : List ℕ) (room : ℕ) : Type 0 where
  pub formed : well_formed file ≡ true
  pub sizes : sizes_taken file ≡ true
  pub space : 24 * (count_of file + 1) ≤ room

-- an empty table of the file's sizes that can fill every cell
abbrev pub empty_table : List ℕ → Meaning
empty_table file = full_meaning (shuttles_of file) (moves_of file) (λ s t i. None)
