-- What a table's answers say of the next move, and what the calls inside give.
use Rattle.std.specs.Prelude.{◌≡◌, ℕ, ◌+◌, ◌*◌, ◌%◌, ◌<◌, ◌⊎◌, ◌↔◌, List, replicate, Some, None, Ok, Err, Option, Result, ◌≢◌, slice_index}
use Rattle.order.specs.Board.{Move, Lengths, Edges, On, Before}
use Rattle.words.specs.declared.Refusal.{Refusal}
use Rattle.words.specs.Refusals.{passed}
use Rattle.words.specs.Codes.{move_of}
use Rattle.tables.specs.Meaning.{Meaning}
use Rattle.questions.specs.Checks.{move_check}
use Rattle.running.specs.Orders.{FirstOf, EachBy}
use Rattle.running.specs.Calls.{last_look, Serves, Fills}

-- none, or a place below m
abbrev pub Past : Option ℕ → ℕ → Type 0
Past None m = Unit {0}
Past (Some p) m = p < m

-- with d moves of each shuttle listed, no wait holds back the place j of t
abbrev pub Goes : Meaning → List ℕ → ℕ → ℕ → Type 0
Goes m d t j = (r : ℕ) → r < m.shuttles → (r ≢ t) → Past (last_look m r t j) (slice_index d r)

-- the move x may come next
abbrev pub Follows : Meaning → List ℕ → Move → Type 0
Follows m d x = (x.0 < m.shuttles) × (x.1 < m.moves) × (x.1 ≡ slice_index d x.0) × Goes m d x.0 x.1

-- a bound for each shuttle: x is one of its shuttle's first moves, so many
abbrev pub Within : List ℕ → Move → Type 0
Within b x = x.1 < slice_index b x.0

-- what is before a move within the bounds is within them
abbrev pub Closed : ℕ → Lengths → Edges → List ℕ → Type 0
Closed k len W b = (x y : Move) → On k len x → Within b x → Before k len W y x → Within b y

-- the moves within the bounds are those before v
abbrev pub Bounds : ℕ → Lengths → Edges → Move → List ℕ → Type 0
Bounds k len W v b = (x : Move) → On k len x → Before k len W x v ↔ Within b x

-- shuttle t's next move may come, and is within the bounds
abbrev pub Offers : Meaning → List ℕ → List ℕ → ℕ → Type 0
Offers m d b t = (t < m.shuttles) × Within b (t, slice_index d t) × (slice_index d t < m.moves) × Goes m d t (slice_index d t)

-- the lowest shuttle that offers one
abbrev pub Picks : Meaning → List ℕ → List ℕ → Option ℕ → Type 0
Picks m d b None = (t : ℕ) → Offers m d b t → ⊥
Picks m d b (Some t) = Offers m d b t × ((q : ℕ) → q < t → Offers m d b q → ⊥)

-- bounds that every move is within
abbrev pub all : List ℕ
all = replicate 16 4096

-- within the bounds first, then any
abbrev pub Nexts : Meaning → List ℕ → List ℕ → Option ℕ → Type 0
Nexts m d b None = Picks m d all None
Nexts m d b (Some t) = Picks m d b (Some t) ⊎ (Picks m d b None × Picks m d all (Some t))

-- whatever waits the table answers for, the moves are written as they are chosen, those within the bounds first
abbrev pub Filled : Meaning → List ℕ → List ℕ → List ℕ → Result ℕ Refusal → Type 0
Filled m b old new r =
    Fills (m.shuttles * m.moves)
    (λ L. (W : Edges) → Serves m W → Closed m.shuttles (λ _. m.moves) W b → EachBy (FirstOf m.shuttles (λ _. m.moves) W (Within b)) L) old new r

-- how many moves of a shuttle are before a move, by the answer for the last of them
abbrev pub count_of : Result (Option ℕ) Refusal → ℕ
count_of (Ok None) = 0
count_of (Ok (Some x)) = x % 4096 + 1
count_of (Err e) = 0

-- so many moves of the shuttle t are before v
pub record Counts (m : Meaning) (v t c : ℕ) : Type 0 where
  pub tells : passed ≡ move_check m.shuttles m.moves v → t < m.shuttles → (W : Edges) → Serves m W → (j : ℕ)
      → Before m.shuttles (λ _. m.moves) W (t, j) (move_of v) ↔ (j < c)

-- b has the bounds of the move with the code v
pub record Reach (m : Meaning) (v : ℕ) (b : List ℕ) : Type 0 where
  pub bounds : passed ≡ move_check m.shuttles m.moves v → (W : Edges) → Serves m W → Bounds m.shuttles (λ _. m.moves) W (move_of v) b
