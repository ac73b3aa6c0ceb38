-- The waits that stand on a board, and what its calls give at them.
use Rattle.std.specs.Prelude.{◌≡◌, ℕ, ◌*◌, ◌/◌, ◌%◌, ◌<◌, ◌≤◌, Bool, true, false, cond, ◌&&◌, ◌||◌, ◌⊎◌, ◌↔◌, List, [], ◌∷◌, length, Some, None, Ok, Err, Option, Result, ◌==◌, ◌≢◌, nat_lt}
use Rattle.words.specs.declared.Refusal.{Refusal}
use Rattle.words.specs.Refusals.{passed, refused, then, unless, refused_if}
use Rattle.words.specs.Codes.{move_of}
use Rattle.tables.specs.Meaning.{Meaning, filled_of}
use Rattle.stores.specs.Holding.{Holding}
use Rattle.order.specs.Lists.{In, Earlier}
use Rattle.order.specs.Board.{Move, Lengths, Edges, Before, Running, Ordered}
use Rattle.order.specs.Cells.{CellOf, placed}
use Rattle.order.specs.Rounds.{Table, FirstAfter, LastBefore, Ran}
use Rattle.questions.specs.declared.rounds.Way.{Way}
use Rattle.questions.specs.declared.rounds.Way.TheVariants.{After, Before as Ahead}
use Rattle.questions.specs.Checks.{move_check, moves_check, wait_check, question_check}
use Rattle.questions.specs.Looking.{pick_of, look_of}
use Rattle.questions.specs.Asking.{coded}
use Rattle.running.specs.Orders.{moves_of, Lists, Pushes}
use Rattle.running.specs.Calls.{Fills}

-- waits: pairs of moves, the first of which must be done before the second
abbrev pub Waits : Type 0
Waits = Edges

-- the limits of a board: its shuttles, the moves of each, the cells that its table can fill, the waits that its store can hold
pub record Limits : Type 0 where
  pub shuttles : ℕ
  pub moves : ℕ
  pub cells : ℕ
  pub waits : ℕ

-- every shuttle has as many moves
abbrev pub lengths : Limits → Lengths
lengths b = λ _. b.moves

abbrev pub same_move : Move → Move → Bool
same_move x y = x.0 == y.0 && x.1 == y.1

abbrev pub is_wait : Move × Move → Move → Move → Bool
is_wait w u v = same_move w.0 u && same_move w.1 v

-- whether the wait u -> v stands
abbrev pub holds : Waits → Move → Move → Bool
holds [] u v = false
holds (w ∷ W) u v = is_wait w u v || holds W u v

-- the waits without u -> v
abbrev pub without : Waits → Move → Move → Waits
without [] u v = []
without (w ∷ W) u v = cond (is_wait w u v) (without W u v) (w ∷ without W u v)

-- no wait stands twice
abbrev pub Single : Waits → Type 0
Single [] = Unit {0}
Single (w ∷ W) = (holds W w.0 w.1 ≡ false) × Single W

-- the cells that keep the waits
abbrev pub cells_of : Waits → Table
cells_of [] = λ s t i. None
cells_of (w ∷ W) = placed (cells_of W) w.0 w.1

-- what the table of a board with these waits means
abbrev pub meant : Limits → Waits → Meaning
meant b W = record { shuttles = b.shuttles; moves = b.moves; capacity = b.cells; cell = cells_of W }

-- what its store means
abbrev pub listed : Limits → Waits → Holding
listed b W = record { held = λ u v. holds W (move_of u) (move_of v); count = length W; capacity = b.waits }

-- waits that may stand: between different shuttles, none twice, and with a running order
pub record Sound (b : Limits) (W : Waits) : Type 0 where
  pub small : b.moves ≤ 4096
  pub apart : (u v : Move) → In W (u, v) → u.0 ≢ v.0
  pub single : Single W
  pub ordered : Ordered b.shuttles (lengths b) W

-- the waits W stand on a board whose table and store mean this. In plain words: `smallest` says that each cell holds the smallest j of all waits s.i -> t.j,
-- or is empty, and `waits` that the store holds these waits and no others
pub record Stands (b : Limits) (W : Waits) (m : Meaning) (h : Holding) : Type 0 where
  pub table : m ≡ meant b W
  pub store : h ≡ listed b W
  pub sound : Sound b W
  pub smallest : (s t i : ℕ) → s < b.shuttles → t < b.shuttles → (s ≢ t) → i < b.moves → CellOf W s t i (m.cell s t i)
  pub waits : (u v : ℕ) → (h.held u v ≡ true) ↔ In W (move_of u, move_of v)

-- the limits of a board over a table and a store that mean this
abbrev pub limits : Meaning → Holding → Limits
limits m h = record { shuttles = m.shuttles; moves = m.moves; cells = m.capacity; waits = h.capacity }

-- a placement

-- the checks ahead of the one for a circle
abbrev pub past : Limits → Waits → (u v : ℕ) → Result Unit Refusal
past b W u v = then (wait_check b.shuttles b.moves u v) (refused_if (holds W (move_of u) (move_of v)) 4)

-- refused with 8 where the wait's cell is empty and the table is full
abbrev pub room_for : Limits → Waits → Option ℕ → Result Unit Refusal
room_for b W None = unless (nat_lt (filled_of b.shuttles b.moves (cells_of W)) b.cells) 8
room_for b W (Some j) = passed

-- the answer, where c says whether the wait closes a circle: the checks in their order
abbrev pub place_gives : Limits → Waits → Bool → (u v : ℕ) → Result Unit Refusal
place_gives b W c u v =
    then (past b W u v)
    (then (refused_if c 6) (then (unless (nat_lt (length W) b.waits) 7) (room_for b W (cells_of W (u / 4096) (v / 4096) (u % 4096)))))

-- the answer: a circle is closed where v is before u, by any path
abbrev pub Placed : Limits → Waits → (u v : ℕ) → Result Unit Refusal → Type 0
Placed b W u v r =
    (c : Bool) × ((c ≡ true) ↔ Before b.shuttles (lengths b) W (move_of v) (move_of u)) × (r ≡ place_gives b W c u v)

-- past the checks ahead of it, a placement is refused as a circle exactly where no running order keeps the wait with those that stand
abbrev pub Circled : Limits → Waits → (u v : ℕ) → Result Unit Refusal → Type 0
Circled b W u v r =
    passed ≡ past b W u v → (r ≡ refused 6) ↔ (Ordered b.shuttles (lengths b) ((move_of u, move_of v) ∷ W) → ⊥)

-- the waits that stand afterwards
abbrev pub placed_waits : Waits → (u v : ℕ) → Result Unit Refusal → Waits
placed_waits W u v (Ok x) = (move_of u, move_of v) ∷ W
placed_waits W u v (Err e) = W

-- a removal

abbrev pub remove_gives : Limits → Waits → (u v : ℕ) → Result Unit Refusal
remove_gives b W u v = then (wait_check b.shuttles b.moves u v) (unless (holds W (move_of u) (move_of v)) 5)

abbrev pub removed_waits : Waits → (u v : ℕ) → Result Unit Refusal → Waits
removed_waits W u v (Ok x) = without W (move_of u) (move_of v)
removed_waits W u v (Err e) = W

-- the questions

-- the entry is the earliest move of t that has to follow u, or the latest that has to come before it
abbrev pub Nearest : Way → Limits → Waits → Move → ℕ → Option ℕ → Type 0
Nearest After b W u t o = FirstAfter b.shuttles (lengths b) W u t o
Nearest Ahead b W u t o = LastBefore b.shuttles (lengths b) W u t o

-- the rounds of a question that u is asked for t: none on u's own shuttle, else those of the round rule, and always fewer than the shuttles
abbrev pub Rounded : Way → Limits → Waits → (u t : ℕ) → ℕ → Type 0
Rounded w b W u t c =
    (((u / 4096 ≡ t) × (c ≡ 0))
    ⊎ ((u / 4096 ≢ t) × ((p : Option ℕ) × Ran (pick_of w) (look_of w (meant b W)) b.shuttles (u / 4096) (u % 4096) t p c)))
    × (c < b.shuttles)

-- the answer a to the question for the nearest move of t, in c rounds
abbrev pub Found : Way → Limits → Waits → (u t : ℕ) → Result (Option ℕ) Refusal → ℕ → Type 0
Found w b W u t (Ok o) c =
    (passed ≡ question_check b.shuttles b.moves u t) × ((p : Option ℕ) × (o ≡ coded t p) × Nearest w b W (move_of u) t p) × Rounded w b W u t c
Found w b W u t (Err e) c = (Err e ≡ question_check b.shuttles b.moves u t) × (c ≡ 0)

-- every running order of the waits has u earlier than v
abbrev pub AlwaysEarlier : Limits → Waits → Move → Move → Type 0
AlwaysEarlier b W u v = (M : List Move) → Running b.shuttles (lengths b) W M → Earlier M u v

-- the answer a to the question whether u is before v, in c rounds: yes exactly where a path leads from u to v,
-- and of two different moves exactly where every running order has u earlier
abbrev pub Tells : Limits → Waits → (u v : ℕ) → Result Bool Refusal → ℕ → Type 0
Tells b W u v (Ok y) c =
    (passed ≡ moves_check b.shuttles b.moves u v)
    × ((y ≡ true) ↔ Before b.shuttles (lengths b) W (move_of u) (move_of v))
    × ((move_of u ≢ move_of v) → (y ≡ true) ↔ AlwaysEarlier b W (move_of u) (move_of v))
    × Rounded After b W u (v / 4096) c
Tells b W u v (Err e) c = (Err e ≡ moves_check b.shuttles b.moves u v) × (c ≡ 0)

-- running orders

-- the list that takes the lowest ready shuttle each time is written to the front of the slice: a running order, and the only such list
abbrev pub Listed : Limits → Waits → List ℕ → List ℕ → Result ℕ Refusal → Type 0
Listed b W old new r =
    Fills (b.shuttles * b.moves)
    (λ L. Lists b.shuttles (lengths b) W L × Running b.shuttles (lengths b) W L × ((M : List Move) → Lists b.shuttles (lengths b) W M → M ≡ L)) old new r

-- where v is checked: refused so, or the list that does so with the moves before v first is written
abbrev pub PushedBy : Result Unit Refusal → Limits → Waits → ℕ → List ℕ → List ℕ → Result ℕ Refusal → Type 0
PushedBy (Ok x) b W v old new r =
    Fills (b.shuttles * b.moves)
    (λ L. Pushes b.shuttles (lengths b) W (move_of v) L × Running b.shuttles (lengths b) W L
    × ((M : List Move) → Pushes b.shuttles (lengths b) W (move_of v) M → M ≡ L)) old new r
PushedBy (Err e) b W v old new r = (r ≡ Err e) × (new ≡ old)

abbrev pub Pushed : Limits → Waits → ℕ → List ℕ → List ℕ → Result ℕ Refusal → Type 0
Pushed b W v old new r = PushedBy (move_check b.shuttles b.moves v) b W v old new r

-- y says whether the codes are a running order of the waits
abbrev pub Tested : Limits → Waits → List ℕ → Bool → Type 0
Tested b W codes y = (y ≡ true) ↔ Running b.shuttles (lengths b) W (moves_of codes)

-- what a call says of all waits that stand on its board

pub record PlaceKeeps (m : Meaning) (h : Holding) (u v : ℕ) (r : Result Unit Refusal) (m' : Meaning) (h' : Holding) : Type 0 where
  pub at : (b : Limits) (W : Waits) → Stands b W m h → Placed b W u v r × Circled b W u v r × Stands b (placed_waits W u v r) m' h'

pub record RemoveKeeps (m : Meaning) (h : Holding) (u v : ℕ) (r : Result Unit Refusal) (m' : Meaning) (h' : Holding) : Type 0 where
  pub at : (b : Limits) (W : Waits) → Stands b W m h → (r ≡ remove_gives b W u v) × Stands b (removed_waits W u v r) m' h'

pub record FindsSo (w : Way) (m : Meaning) (h : Holding) (u t : ℕ) (a : Result (Option ℕ) Refusal) (c : ℕ) : Type 0 where
  pub at : (b : Limits) (W : Waits) → Stands b W m h → Found w b W u t a c

pub record TellsSo (m : Meaning) (h : Holding) (u v : ℕ) (a : Result Bool Refusal) (c : ℕ) : Type 0 where
  pub at : (b : Limits) (W : Waits) → Stands b W m h → Tells b W u v a c

pub record ListsAt (m : Meaning) (h : Holding) (old new : List ℕ) (r : Result ℕ Refusal) : Type 0 where
  pub at : (b : Limits) (W : Waits) → Stands b W m h → Listed b W old new r

pub record PushesAt (m : Meaning) (h : Holding) (v : ℕ) (old new : List ℕ) (r : Result ℕ Refusal) : Type 0 where
  pub at : (b : Limits) (W : Waits) → Stands b W m h → Pushed b W v old new r

pub record TestsAt (m : Meaning) (h : Holding) (codes : List ℕ) (y : Bool) : Type 0 where
  pub at : (b : Limits) (W : Waits) → Stands b W m h → Tested b W codes y
