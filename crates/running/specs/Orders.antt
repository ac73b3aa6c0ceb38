-- Running orders made move by move: what may come next, and what is chosen.
use Rattle.std.specs.Prelude.{◌≡◌, ℕ, ◌<◌, ◌⊎◌, ◌↔◌, List, map, length, take, ◌≢◌, slice_index_or}
use Rattle.order.specs.Lists.{In, Earlier}
use Rattle.order.specs.Board.{Move, Lengths, Edges, On, Before, Running, Ordered, total}
use Rattle.words.specs.Codes.{move_of}

-- the moves with these codes
abbrev pub moves_of : List ℕ → List Move
moves_of cs = map move_of cs

-- x is not among the moves P, and is the next of its shuttle after them
abbrev pub Upcoming : ℕ → Lengths → List Move → Move → Type 0
Upcoming k len P x = On k len x × (In P x → ⊥) × ((i : ℕ) → i < x.1 → In P (x.0, i))

-- and all other moves before x are among them
abbrev pub Ready : ℕ → Lengths → Edges → List Move → Move → Type 0
Ready k len W P x = Upcoming k len P x × ((y : Move) → Before k len W y x → (y ≢ x) → In P y)

-- of the moves in B, x is the ready one of the lowest shuttle that has one
abbrev pub Lowest : ℕ → Lengths → Edges → (Move → Type 0) → List Move → Move → Type 0
Lowest k len W B P x = B x × Ready k len W P x × ((y : Move) → y.0 < x.0 → B y → Ready k len W P y → ⊥)

-- what `list` takes after the moves P
abbrev pub Chosen : ℕ → Lengths → Edges → List Move → Move → Type 0
Chosen k len W P x = Ready k len W P x × ((y : Move) → y.0 < x.0 → Ready k len W P y → ⊥)

-- of the moves in B first, then of all
abbrev pub FirstOf : ℕ → Lengths → Edges → (Move → Type 0) → List Move → Move → Type 0
FirstOf k len W B P x = Lowest k len W B P x ⊎ (((y : Move) → On k len y → B y → In P y) × Chosen k len W P x)

-- what `push` takes after the moves P: of the moves before v first, v among them
abbrev pub Pushed : ℕ → Lengths → Edges → Move → List Move → Move → Type 0
Pushed k len W v P x = FirstOf k len W (λ y. Before k len W y v) P x

-- each move of the list is taken so after those that stand earlier
abbrev pub EachBy : (List Move → Move → Type 0) → List Move → Type 0
EachBy C L = (p : ℕ) → p < length L → C (take p L) (slice_index_or L p (0, 0))

abbrev pub Lists : ℕ → Lengths → Edges → List Move → Type 0
Lists k len W L = (length L ≡ total k len) × EachBy (Chosen k len W) L

abbrev pub Pushes : ℕ → Lengths → Edges → Move → List Move → Type 0
Pushes k len W v L = (length L ≡ total k len) × EachBy (Pushed k len W v) L

-- a list of all the moves is a running order exactly where each is ready after those that stand earlier
abbrev pub Stepwise : Type 0
Stepwise = (k : ℕ) (len : Lengths) (W : Edges) → Ordered k len W → (L : List Move) → Running k len W L ↔ ((length L ≡ total k len) × EachBy (Ready k len W) L)

-- there is one such list at most, and it is a running order
abbrev pub OneList : Type 0
OneList = (k : ℕ) (len : Lengths) (W : Edges) (L M : List Move) → Lists k len W L → Lists k len W M → L ≡ M

abbrev pub ListRuns : Type 0
ListRuns = (k : ℕ) (len : Lengths) (W : Edges) → Ordered k len W → (L : List Move) → Lists k len W L → Running k len W L

abbrev pub OnePush : Type 0
OnePush = (k : ℕ) (len : Lengths) (W : Edges) (v : Move) (L M : List Move) → Pushes k len W v L → Pushes k len W v M → L ≡ M

abbrev pub PushRuns : Type 0
PushRuns = (k : ℕ) (len : Lengths) (W : Edges) → Ordered k len W → (v : Move) → (L : List Move) → Pushes k len W v L → Running k len W L

-- `push` of v has what is before v earlier than all else
abbrev pub PushFirst : Type 0
PushFirst =
    (k : ℕ) (len : Lengths) (W : Edges) → Ordered k len W → (v : Move) → On k len v → (L : List Move) → Pushes k len W v L → (x y : Move)
    → Before k len W x v → On k len y → (Before k len W y v → ⊥) → Earlier L x y

-- there is such a list
abbrev pub SomeList : Type 0
SomeList = (k : ℕ) (len : Lengths) (W : Edges) → Ordered k len W → (L : List Move) × Lists k len W L

abbrev pub SomePush : Type 0
SomePush = (k : ℕ) (len : Lengths) (W : Edges) → Ordered k len W → (v : Move) → (L : List Move) × Pushes k len W v L
