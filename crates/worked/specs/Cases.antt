-- Worked cases: small boards and tables, and what is answered there.
use Rattle.std.specs.Prelude.{◌≡◌, ℕ, true, false, List, [], ◌∷◌, map, Some, None, Ok}
use Rattle.words.specs.Refusals.{passed, refused}
use Rattle.words.specs.Codes.{code_of}
use Rattle.order.specs.Board.{Move}
use Rattle.tables.specs.Meaning.{Meaning, full_meaning, with_cell}
use Rattle.tables.specs.Answers.{cell_answer, least_answer, last_answer}
use Rattle.questions.specs.declared.rounds.Way.TheVariants.{After, Before as Ahead}
use Rattle.board.specs.Standing.{Limits, Waits, Sound, meant, remove_gives, removed_waits}
use Rattle.worked.specs.Only.{OnlyFound, OnlyTold, OnlyPlaced, OnlyListed, OnlyPushed}

-- boards

-- three shuttles with three moves each; the table can fill every cell, and the store holds four waits
abbrev pub aisle : Limits
aisle = record { shuttles = 3; moves = 3; cells = 18; waits = 4 }

-- 0.1 -> 1.1 and 1.2 -> 2.0
abbrev pub chained : Waits
chained = ((0, 1), (1, 1)) ∷ ((1, 2), (2, 0)) ∷ []

-- 0.0 -> 1.2 and 0.0 -> 1.0: two waits with one cell
abbrev pub forked : Waits
forked = ((0, 0), (1, 2)) ∷ ((0, 0), (1, 0)) ∷ []

-- what `list` gives at the chained waits
abbrev pub listed_moves : List Move
listed_moves = (0, 0) ∷ (0, 1) ∷ (0, 2) ∷ (1, 0) ∷ (1, 1) ∷ (1, 2) ∷ (2, 0) ∷ (2, 1) ∷ (2, 2) ∷ []

-- what `push` of 2.0 gives there: 0.2, which is not before 2.0, comes after it
abbrev pub pushed_moves : List Move
pushed_moves = (0, 0) ∷ (0, 1) ∷ (1, 0) ∷ (1, 1) ∷ (1, 2) ∷ (2, 0) ∷ (0, 2) ∷ (2, 1) ∷ (2, 2) ∷ []

abbrev pub codes : List Move → List ℕ
codes L = map (λ x. code_of x.0 x.1) L

-- tables

-- an empty table of two shuttles with n moves each
abbrev pub empty : ℕ → Meaning
empty n = full_meaning 2 n (λ s t i. None)

-- the table with j in the cell of the pair (0, 1) at place i
abbrev pub holding : Meaning → (i j : ℕ) → Meaning
holding m i j = with_cell m 0 1 i (Some j)

-- place 2 holds 65, place 3 holds 42, place 0 holds 59
abbrev pub three_cells : Meaning
three_cells = holding (holding (holding (empty 100) 2 65) 3 42) 0 59

-- and place 7 holds 13
abbrev pub four_cells : Meaning
four_cells = holding three_cells 7 13

-- place 1 holds 3, place 6 holds 9
abbrev pub two_cells : Meaning
two_cells = holding (holding (empty 10) 1 3) 6 9

-- the waits of the cases may stand on the aisle's board
pub record CasesStand : Type 0 where
  pub none_stand : Sound aisle []
  pub chained_stand : Sound aisle chained
  pub forked_stand : Sound aisle forked

-- the cases: each call's only answer, and what a table answers
pub record WorkedCases : Type 0 where
  -- at the chained waits
  pub first_after_found : OnlyFound After aisle chained (code_of 0 0) 2 (Some (code_of 2 0)) 2
  pub first_after_none : OnlyFound After aisle chained (code_of 0 2) 2 None 1
  pub last_before_found : OnlyFound Ahead aisle chained (code_of 2 2) 0 (Some (code_of 0 1)) 2
  pub circle_refused : OnlyPlaced aisle chained (code_of 2 0) (code_of 0 1) (refused 6)
  pub no_circle_done : OnlyPlaced aisle chained (code_of 2 0) (code_of 0 2) passed
  pub list_given : OnlyListed aisle chained (codes listed_moves)
  pub push_given : OnlyPushed aisle chained (code_of 2 0) (codes pushed_moves)
  -- at no waits
  pub other_shuttle_not_before : OnlyTold aisle [] (code_of 0 0) (code_of 1 0) false 1
  pub own_shuttle_before : OnlyTold aisle [] (code_of 0 0) (code_of 0 2) true 0
  -- at the forked waits: the cell holds the earliest, and the one that is left
  pub cell_of_both : cell_answer (meant aisle forked) 0 1 0 ≡ Ok (Some 0)
  pub cell_of_one_left : (remove_gives aisle forked (code_of 0 0) (code_of 1 0) ≡ passed)
      × (cell_answer (meant aisle (removed_waits forked (code_of 0 0) (code_of 1 0) passed)) 0 1 0 ≡ Ok (Some 2))
  -- of tables
  pub least_and_last : (least_answer three_cells 0 1 0 ≡ Ok (Some 42)) × (least_answer three_cells 0 1 4 ≡ Ok None)
      × (last_answer three_cells 0 1 59 ≡ Ok (Some 3)) × (last_answer three_cells 0 1 41 ≡ Ok None)
  pub last_of_four : last_answer four_cells 0 1 41 ≡ Ok (Some 7)
  pub least_of_two : least_answer two_cells 0 1 2 ≡ Ok (Some 9)
