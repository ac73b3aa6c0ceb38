-- The report. Its first line is the shuttles, the moves and the count of steps. Each step has a line: its number from 1, and its returned number;
-- a question that is taken adds its finding (1 or 0; or s.i, or - for none) and its rounds. Single blanks separate, a line feed ends each line.
use Rattle.std.specs.Prelude.{ℕ, suc, ◌/◌, ◌%◌, cond, List, [], ◌∷◌, ◌++◌, Some, None, Ok, Err, decimal, Option}
use Rattle.words.specs.Refusals.{number_of}
use Rattle.runs.specs.declared.calls.Answer.TheVariants.{Done, Truth, Found, Listed, Tested}
use Rattle.runs.specs.Law.{Outcome}

abbrev pub blank : ℕ
blank = 32

abbrev pub line_feed : ℕ
line_feed = 10

-- a blank and a number
abbrev pub next_number : ℕ → List ℕ
next_number n = blank ∷ decimal n

-- the number that a call returned: 0 when it is done
abbrev pub returned_number : Outcome → ℕ
returned_number (Ok a) = 0
returned_number (Err e) = number_of e

-- a move as s.i, or - for none
abbrev pub move_text : Option ℕ → List ℕ
move_text None = 45 ∷ []
move_text (Some u) = decimal (u / 4096) ++ (46 ∷ []) ++ decimal (u % 4096)

-- what a question that is taken adds
abbrev pub finding_text : Outcome → List ℕ
finding_text (Ok Done) = []
finding_text (Ok (Truth y c)) = (blank ∷ cond y 49 48 ∷ []) ++ next_number c
finding_text (Ok (Found o c)) = (blank ∷ []) ++ move_text o ++ next_number c
finding_text (Ok (Listed n)) = []
finding_text (Ok (Tested y)) = []
finding_text (Err e) = []

-- the line of the step with this number
abbrev pub line : ℕ → Outcome → List ℕ
line i a = decimal i ++ next_number (returned_number a) ++ finding_text a ++ (line_feed ∷ [])

-- the lines of some steps, the first of which has this number
abbrev pub lines_from : ℕ → List Outcome → List ℕ
lines_from i [] = []
lines_from i (a ∷ rest) = line i a ++ lines_from (suc i) rest

-- the first line
abbrev pub first_line : ℕ → ℕ → ℕ → List ℕ
first_line k n c = decimal k ++ next_number n ++ next_number c ++ (line_feed ∷ [])

-- the report of k shuttles with n moves, c steps, and what the steps answered
abbrev pub report_of : ℕ → ℕ → ℕ → List Outcome → List ℕ
report_of k n c answers = first_line k n c ++ lines_from 1 answers
