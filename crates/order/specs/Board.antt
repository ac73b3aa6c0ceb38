-- A board: its moves, the edges that steps follow, what is before what, and its running orders.
use Rattle.std.specs.Prelude.{◌≡◌, ℕ, zero, suc, ◌+◌, ◌<◌, ◌≤◌, ◌⊎◌, List, [], ◌∷◌, ◌++◌}
use Rattle.order.specs.Lists.{In, Earlier, Reaches}

-- a move: its shuttle and its place
abbrev pub Move : Type 0
Move = ℕ × ℕ

-- how many moves each shuttle has, none allowed. Where all have n it is `λ _. n`
abbrev pub Lengths : Type 0
Lengths = ℕ → ℕ

-- pairs of moves: from the first, one step leads to the second
abbrev pub Edges : Type 0
Edges = List (Move × Move)

-- the move is on a board with k shuttles, of so many moves each
abbrev pub On : ℕ → Lengths → Move → Type 0
On k len m = (m.0 < k) × (m.1 < len m.0)

-- v is the next move on u's shuttle
abbrev pub Next : ℕ → Lengths → Move → Move → Type 0
Next k len u v = (u.0 < k) × (suc u.1 < len u.0) × (v ≡ (u.0, suc u.1))

abbrev pub Step : ℕ → Lengths → Edges → Move → Move → Type 0
Step k len E u v = Next k len u v ⊎ In E (u, v)

abbrev pub Before : ℕ → Lengths → Edges → Move → Move → Type 0
Before k len E u v = Reaches (Step k len E) v u

-- L holds each move of the board exactly once, each shuttle's by rising place, and each edge's first earlier than its second
pub record Running (k : ℕ) (len : Lengths) (E : Edges) (L : List Move) : Type 0 where
  pub each : (x : Move) → On k len x → In L x
  pub only : (x : Move) → In L x → On k len x
  pub once : (x : Move) → Earlier L x x → ⊥
  pub rising : (s i j : ℕ) → s < k → i < j → j < len s → Earlier L (s, i) (s, j)
  pub follows : (u v : Move) → In E (u, v) → Earlier L u v

-- the edges have a running order
abbrev pub Ordered : ℕ → Lengths → Edges → Type 0
Ordered k len E = (L : List Move) × Running k len E L

-- every edge is between moves of the board
abbrev pub Fits : ℕ → Lengths → Edges → Type 0
Fits k len E = (u v : Move) → In E (u, v) → On k len u × On k len v

-- no shuttle has more than n moves: a table with n places for each has room for them
abbrev pub Short : ℕ → ℕ → Lengths → Type 0
Short k n len = (s : ℕ) → s < k → len s ≤ n

-- the first n moves of the shuttle s
abbrev pub row : ℕ → ℕ → List Move
row s zero = []
row s (suc n) = row s n ++ (s, n) ∷ []

-- k shuttles, one after the other
abbrev pub rows : ℕ → Lengths → List Move
rows zero len = []
rows (suc k) len = rows k len ++ row k (len k)

-- how many moves the k shuttles have
abbrev pub total : ℕ → Lengths → ℕ
total zero len = zero
total (suc k) len = total k len + len k
