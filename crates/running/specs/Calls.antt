-- What `list`, `push` and `test` answer. The checks come in this order: the move's shuttle (1), its place (2), the room in the slice (9).
use Rattle.std.specs.Prelude.{◌≡◌, ℕ, ◌*◌, ◌<◌, ◌≤◌, Bool, true, ◌↔◌, List, length, take, drop, Ok, Err, Result}
use Rattle.words.specs.declared.Refusal.{Refusal}
use Rattle.words.specs.Refusals.{refused}
use Rattle.words.specs.Codes.{move_of}
use Rattle.order.specs.Board.{Move, Edges, Running, Ordered}
use Rattle.order.specs.Rounds.{Table, RightBack}
use Rattle.tables.specs.Meaning.{Meaning}
use Rattle.tables.specs.Answers.{last_answer}
use Rattle.questions.specs.Checks.{move_check}
use Rattle.questions.specs.Looking.{or_none}
use Rattle.running.specs.Orders.{moves_of, Lists, Pushes}

-- the last place that the table tells, or none
abbrev pub last_look : Meaning → Table
last_look m s t j = or_none (last_answer m s t j)

-- the table answers for the waits W, and they have a running order
abbrev pub Serves : Meaning → Edges → Type 0
Serves m W = RightBack m.shuttles (λ _. m.moves) W (last_look m) × Ordered m.shuttles (λ _. m.moves) W

-- c codes are written at the front of the slice, and C is so of their moves; a slice that is too short is refused and left as it was
abbrev pub Fills : ℕ → (List Move → Type 0) → List ℕ → List ℕ → Result ℕ Refusal → Type 0
Fills c C old new (Ok r) = (r ≡ c) × (c ≤ length old) × (length new ≡ length old) × (drop c new ≡ drop c old) × C (moves_of (take c new))
Fills c C old new (Err e) = (length old < c) × (◌≡◌ {A = Result ℕ Refusal} (Err e) (refused 9)) × (new ≡ old)

-- whatever waits the table answers for: the list that takes the lowest ready shuttle each time is written. It is a running order, and the only such list
pub record ListedSo (m : Meaning) (old new : List ℕ) (r : Result ℕ Refusal) : Type 0 where
  pub writes : Fills (m.shuttles * m.moves)
      (λ L. (W : Edges) → Serves m W → Lists m.shuttles (λ _. m.moves) W L × Running m.shuttles (λ _. m.moves) W L
      × ((M : List Move) → Lists m.shuttles (λ _. m.moves) W M → M ≡ L)) old new r

-- where v is no move, the call is refused so and the slice left as it was; else the list is written that takes the moves before v first, v among them
abbrev pub PushedBy : Result Unit Refusal → Meaning → ℕ → List ℕ → List ℕ → Result ℕ Refusal → Type 0
PushedBy (Ok u) m v old new r =
    Fills (m.shuttles * m.moves)
    (λ L. (W : Edges) → Serves m W → Pushes m.shuttles (λ _. m.moves) W (move_of v) L × Running m.shuttles (λ _. m.moves) W L
    × ((M : List Move) → Pushes m.shuttles (λ _. m.moves) W (move_of v) M → M ≡ L)) old new r
PushedBy (Err e) m v old new r = (r ≡ Err e) × (new ≡ old)

-- the same, whatever waits the table answers for: it is a running order, and the only such list
pub record PushedSo (m : Meaning) (v : ℕ) (old new : List ℕ) (r : Result ℕ Refusal) : Type 0 where
  pub writes : PushedBy (move_check m.shuttles m.moves v) m v old new r

-- whatever waits the table answers for, b says whether the codes are a running order of them
pub record TestsSo (m : Meaning) (codes : List ℕ) (b : Bool) : Type 0 where
  pub decides : (W : Edges) → Serves m W → (b ≡ true) ↔ Running m.shuttles (λ _. m.moves) W (moves_of codes)
