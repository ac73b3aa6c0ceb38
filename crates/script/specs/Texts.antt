-- How the steps of an edit file are written in a script, and what is wrong with a file.
use Rattle.std.specs.Prelude.{ℕ, ◌++◌, List, [], codes, decimal, Some, None, Option}
use Rattle.std.specs.List.{flat_map}
use Rattle.words.specs.declared.Refusal.TheVariants.{BadForm}
use Rattle.words.specs.Texts.{reason, move_text}
use Rattle.runs.specs.declared.calls.Ask.{Ask}
use Rattle.runs.specs.declared.calls.Ask.TheVariants.{Place, Remove, Before, FirstAfter, LastBefore, List as ListMoves, Push, Test}
use Rattle.commands.specs.declared.values.Wrong.TheVariants as wrong
use Rattle.words.specs.declared.kinds.TableKind.TheVariants.{Plain}
use Rattle.words.specs.declared.kinds.StoreKind.TheVariants.{Loose}
use Rattle.commands.specs.Texts.{board_text, wrong_text}
use Rattle.station.specs.Edit.{shuttles_of, moves_of, steps_of}
use Rattle.script.specs.declared.edits.Damage.{Damage}
use Rattle.script.specs.declared.edits.Damage.TheVariants.{Form, Step, Memory}

-- the line of a call with two moves, and of one with a move and a shuttle
abbrev pub two_moves : List ℕ → ℕ → ℕ → List ℕ
two_moves name u v = name ++ (move_text u ++ (codes " " ++ (move_text v ++ codes "\n")))

abbrev pub move_and_shuttle : List ℕ → ℕ → ℕ → List ℕ
move_and_shuttle name u t = name ++ (move_text u ++ (codes " " ++ (decimal t ++ codes "\n")))

-- the line of a call; no edit file has a list, a push or a test
abbrev pub line_text : Ask → List ℕ
line_text (Place u v) = two_moves (codes "place ") u v
line_text (Remove u v) = two_moves (codes "remove ") u v
line_text (Before u v) = two_moves (codes "before ") u v
line_text (FirstAfter u t) = move_and_shuttle (codes "first-after ") u t
line_text (LastBefore u t) = move_and_shuttle (codes "last-before ") u t
line_text ListMoves = []
line_text (Push u) = []
line_text Test = []

-- the line of a step whose kind is known
abbrev pub told_text : Option Ask → List ℕ
told_text (Some ask) = line_text ask
told_text None = []

-- the script of an edit file: its board, over a plain table and a loose list, and its steps
abbrev pub script_text : List ℕ → List ℕ
script_text bs = (board_text (record { shuttles = shuttles_of bs; moves = moves_of bs; table = Plain; store = Loose }) ++ codes "\n") ++ flat_map told_text (steps_of bs)

-- what is wrong with a file, in words
abbrev pub damage_text : Damage → List ℕ
damage_text Form = reason BadForm
damage_text (Step i) = codes "step " ++ (decimal i ++ codes ": there is no such kind")
damage_text Memory = wrong_text wrong.Memory
