-- The edit file: numbers of 16 bits, high byte first. Its header is the shuttles, the moves of each, the count of steps, and the offset of the first step, which is 8.
-- A step is a kind and two numbers. Kind 1 places a wait and 2 removes one, 3 asks whether a move is before another, each with two codes;
-- 4 asks for the first move that follows and 5 for the last that comes before, each with a code and a shuttle.
use Rattle.std.specs.Prelude.{ℕ, zero, suc, ◌+◌, ◌*◌, Bool, cond, ◌&&◌, List, [], ◌∷◌, ◌++◌, length, Some, None, Ok, Option, Result, ◌==◌, nat_le, nat_lt, slice_index}
use Rattle.words.specs.declared.Refusal.{Refusal}
use Rattle.words.specs.Refusals.{passed, refused, then, unless}
use Rattle.words.specs.declared.kinds.TableKind.{TableKind}
use Rattle.words.specs.declared.kinds.TableKind.TheVariants.{Plain, Full, Sparse}
use Rattle.runs.specs.declared.calls.Ask.{Ask}
use Rattle.station.specs.declared.edit.Header.{Header}
use Rattle.runs.specs.declared.calls.Ask.TheVariants.{Place, Remove, Before, FirstAfter, LastBefore}

-- the number at a byte's place
abbrev pub number_at : List ℕ → ℕ → ℕ
number_at bs p = slice_index bs p * 256 + slice_index bs (p + 1)

abbrev pub shuttles_of : List ℕ → ℕ
shuttles_of bs = number_at bs 0

abbrev pub moves_of : List ℕ → ℕ
moves_of bs = number_at bs 2

abbrev pub count_of : List ℕ → ℕ
count_of bs = number_at bs 4

-- the file has a header, as many steps as that says right behind it, and at most 16,384 bytes
unfoldable pub well_formed : List ℕ → Bool
well_formed bs = nat_le 8 (length bs) && nat_le (length bs) 16384 && length bs == 8 + 6 * count_of bs && number_at bs 6 == 8

-- the station takes 1 to 4 shuttles with 1 to 256 moves
abbrev pub sizes_within : ℕ → ℕ → Bool
sizes_within k n = nat_le 1 k && nat_le k 4 && nat_le 1 n && nat_le n 256

unfoldable pub sizes_taken : List ℕ → Bool
sizes_taken bs = sizes_within (shuttles_of bs) (moves_of bs)

-- the checks of a file, and of a buffer of so many bytes, in their order: the file is badly formed (10), a size is outside its limits (11),
-- the buffer is shorter than 24 bytes for the first line and for each step (9)
abbrev pub form_check : List ℕ → ℕ → Result Unit Refusal
form_check bs room = then (unless (well_formed bs) 10) (then (unless (sizes_taken bs) 11) (unless (nat_le (24 * (count_of bs + 1)) room) 9))

-- a plain table and a full tree are taken
abbrev pub kind_check : TableKind → Result Unit Refusal
kind_check Plain = passed
kind_check Full = passed
kind_check Sparse = refused 12

-- the checks of a call: there is no such table kind (12), and then those of the file and the buffer
abbrev pub file_check : ℕ → List ℕ → ℕ → Result Unit Refusal
file_check kind bs room = then (unless (nat_le kind 1) 12) (form_check bs room)

-- what the header of a well-formed file says
abbrev pub header_told : List ℕ → Header
header_told bs = record { aisle = record { shuttles = shuttles_of bs; moves = moves_of bs }; steps = count_of bs }

-- what it says where the checks are passed
abbrev pub header_taken : List ℕ → ℕ → Result Header Refusal
header_taken bs room = then (form_check bs room) (Ok (header_told bs))

-- a step as a call; none where its kind is not known
abbrev pub step_of : ℕ → ℕ → ℕ → Option Ask
step_of kind x y =
    cond (kind == 1) (Some (Place x y))
    (cond (kind == 2) (Some (Remove x y))
    (cond (kind == 3) (Some (Before x y))
    (cond (kind == 4) (Some (FirstAfter x y))
    (cond (kind == 5) (Some (LastBefore x y)) None))))

-- the step number i of the file, from 0
abbrev pub step_at : List ℕ → ℕ → Option Ask
step_at bs i = step_of (number_at bs (8 + 6 * i)) (number_at bs (10 + 6 * i)) (number_at bs (12 + 6 * i))

-- the first c steps of the file
abbrev pub steps_below : List ℕ → ℕ → List (Option Ask)
steps_below bs zero = []
steps_below bs (suc c) = steps_below bs c ++ step_at bs c ∷ []

abbrev pub steps_of : List ℕ → List (Option Ask)
steps_of bs = steps_below bs (count_of bs)

-- what the header says, if the file is well formed
abbrev pub header_of : List ℕ → Option Header
header_of bs = cond (well_formed bs) (Some (header_told bs)) None

-- the step number i of any bytes, if they reach so far
abbrev pub step_told : List ℕ → ℕ → Option Ask
step_told bs i = cond (nat_lt (13 + 6 * i) (length bs)) (step_at bs i) None
