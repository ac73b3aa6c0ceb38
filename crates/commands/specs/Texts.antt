-- How the lines of a script are written, those that answer them, and what is wrong with one.
use Rattle.std.specs.Prelude.{ℕ, ◌++◌, Bool, true, false, min, List, [], ◌∷◌, length, take, codes, decimal, Some, None, Option, Ok, Err, Result}
use Rattle.std.specs.List.{flat_map}
use Rattle.words.specs.declared.Refusal.{Refusal}
use Rattle.words.specs.Refusals.{number_of}
use Rattle.words.specs.Texts.{reason, move_text}
use Rattle.words.specs.Kinds.{table_word, store_word}
use Rattle.runs.specs.declared.calls.Answer.{Answer}
use Rattle.runs.specs.declared.calls.Answer.TheVariants.{Done, Truth, Found, Listed, Tested}
use Rattle.commands.specs.declared.values.Setup.{Setup}
use Rattle.commands.specs.declared.values.Wrong.{Wrong}
use Rattle.commands.specs.declared.values.Wrong.TheVariants as wrong

-- the line that asks for a board
abbrev pub board_text : Setup → List ℕ
board_text s =
    codes "board " ++ (decimal s.shuttles ++ (codes " " ++ (decimal s.moves ++ (codes " " ++ (table_word s.table ++ (codes " " ++ store_word s.store))))))

-- a refusal by its number and in words
abbrev pub refused_text : Refusal → List ℕ
refused_text e = codes "refused " ++ (decimal (number_of e) ++ (codes ": " ++ reason e))

abbrev pub yes_or_no : Bool → List ℕ
yes_or_no true = codes "yes"
yes_or_no false = codes "no"

-- the moves with these codes, a blank between them
abbrev pub moves_text : List ℕ → List ℕ
moves_text [] = []
moves_text (c ∷ cs) = move_text c ++ flat_map (λ d. codes " " ++ move_text d) cs

-- the move that is found, if there is one
abbrev pub found_text : Option ℕ → List ℕ
found_text (Some c) = move_text c
found_text None = codes "none"

-- what a question is answered, with the rounds that it took
abbrev pub rounds_text : List ℕ → ℕ → List ℕ
rounds_text told rounds = told ++ (codes ", " ++ (decimal rounds ++ codes " rounds"))

-- the line that answers a call whose slice holds these codes
abbrev pub answer_text : Result Answer Refusal → List ℕ → List ℕ
answer_text (Err e) cs = refused_text e
answer_text (Ok Done) cs = codes "done"
answer_text (Ok (Truth truth rounds)) cs = rounds_text (yes_or_no truth) rounds
answer_text (Ok (Found o rounds)) cs = rounds_text (found_text o) rounds
answer_text (Ok (Listed n)) cs = moves_text (take (min n (length cs)) cs)
answer_text (Ok (Tested truth)) cs = yes_or_no truth

-- the line that tells what a cell holds
abbrev pub held_text : Result (Option ℕ) Refusal → List ℕ
held_text (Ok (Some place)) = decimal place
held_text (Ok None) = codes "none"
held_text (Err e) = refused_text e

-- what is wrong with a line, in words
abbrev pub wrong_text : Wrong → List ℕ
wrong_text wrong.Command = codes "there is no such command"
wrong_text wrong.Missing = codes "a word is missing"
wrong_text wrong.Surplus = codes "there is a word too many"
wrong_text wrong.Number = codes "a number is written with digits only"
wrong_text wrong.Move = codes "a move is written as shuttle.place, like 0.1"
wrong_text wrong.Table = codes "a table is plain, full or sparse"
wrong_text wrong.Store = codes "a store is loose or ordered"
wrong_text wrong.NoBoard = codes "there is no board yet"
wrong_text wrong.Unpackable = codes "an edit file has no step for this command"
wrong_text wrong.SecondBoard = codes "an edit file has one board"
wrong_text wrong.NoCode = codes "an edit file has no number for this"
wrong_text wrong.TooManySteps = codes "an edit file has at most 2729 steps"
wrong_text wrong.Memory = codes "there is not enough memory"
