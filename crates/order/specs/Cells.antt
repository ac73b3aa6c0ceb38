-- The cells of a table that keep some edges, and what follows for the table's `least` and `last`.
-- A table has n places for each shuttle and knows nothing of the lengths: only `Answers` and `AnswersBack` ask that no shuttle is longer.
use Rattle.std.specs.Prelude.{◌≡◌, ℕ, ◌<◌, ◌≤◌, cond, ◌&&◌, ◌⊎◌, ◌∷◌, Some, None, Option, ◌==◌, ◌≢◌}
use Rattle.order.specs.Lists.{In}
use Rattle.order.specs.Board.{Move, Lengths, Edges, Fits, Short}
use Rattle.order.specs.Rounds.{Table, Right, RightBack, sooner}

-- the smallest j of all edges s.i -> t.j, or none
abbrev pub CellOf : Edges → ℕ → ℕ → ℕ → Option ℕ → Type 0
CellOf E s t i None = (b : ℕ) → In E ((s, i), (t, b)) → ⊥
CellOf E s t i (Some j) = In E ((s, i), (t, j)) × ((b : ℕ) → In E ((s, i), (t, b)) → j ≤ b)

abbrev pub Keeps : ℕ → ℕ → Edges → Table → Type 0
Keeps k n E c = (s t i : ℕ) → s < k → t < k → (s ≢ t) → i < n → CellOf E s t i (c s t i)

-- the smallest value among the cells at the places i to n - 1, or none
abbrev pub Smallest : ℕ → (ℕ → Option ℕ) → ℕ → Option ℕ → Type 0
Smallest n c i None = (a b : ℕ) → i ≤ a → a < n → c a ≢ Some b
Smallest n c i (Some j) = ((a : ℕ) × (i ≤ a) × (a < n) × (c a ≡ Some j)) × ((a b : ℕ) → i ≤ a → a < n → c a ≡ Some b → j ≤ b)

abbrev pub Scans : ℕ → ℕ → Table → Table → Type 0
Scans k n c f = (s t i : ℕ) → s < k → t < k → (s ≢ t) → i < n → Smallest n (c s t) i (f s t i)

-- what `least` answers over cells that keep the edges is right of the edges
abbrev pub Answers : Type 0
Answers = (k n : ℕ) (len : Lengths) (E : Edges) → Short k n len → Fits k len E → (c f : Table) → Keeps k n E c → Scans k n c f → Right k len E f

-- the greatest place whose cell holds at most j, or none
abbrev pub Greatest : ℕ → (ℕ → Option ℕ) → ℕ → Option ℕ → Type 0
Greatest n c j None = (a b : ℕ) → a < n → c a ≡ Some b → b ≤ j → ⊥
Greatest n c j (Some p) = ((p < n) × ((b : ℕ) × (c p ≡ Some b) × (b ≤ j))) × ((a b : ℕ) → a < n → c a ≡ Some b → b ≤ j → a ≤ p)

abbrev pub ScansBack : ℕ → ℕ → Table → Table → Type 0
ScansBack k n c g = (s t j : ℕ) → s < k → t < k → (s ≢ t) → j < n → Greatest n (c s t) j (g s t j)

-- what `last` answers over cells that keep the edges is right of the edges
abbrev pub AnswersBack : Type 0
AnswersBack = (k n : ℕ) (len : Lengths) (E : Edges) → Short k n len → Fits k len E → (c g : Table) → Keeps k n E c → ScansBack k n c g → RightBack k len E g

-- the cells after the one of the edge u -> v is set to o
abbrev pub renewed : Table → Move → Move → Option ℕ → Table
renewed c u v o s t i = cond (s == u.0 && t == v.0 && i == u.1) o (c s t i)

-- the cells after the edge u -> v is placed
abbrev pub placed : Table → Move → Move → Table
placed c u v = renewed c u v (sooner (c u.0 v.0 u.1) (Some v.1))

abbrev pub Placing : Type 0
Placing = (k n : ℕ) (E : Edges) (c : Table) → Keeps k n E c → (u v : Move) → Keeps k n ((u, v) ∷ E) (placed c u v)

-- where the edges V are those of E, at most without u -> v, only the cell of u -> v is to be found anew
abbrev pub Removing : Type 0
Removing =
    (k n : ℕ) (E V : Edges) (c : Table) → Keeps k n E c → (u v : Move) → ((w : Move × Move) → In V w → In E w)
    → ((w : Move × Move) → In E w → ((u, v) ≡ w) ⊎ In V w) → (o : Option ℕ) → CellOf V u.0 v.0 u.1 o → Keeps k n V (renewed c u v o)
