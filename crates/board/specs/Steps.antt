-- What each call of a board does with what its table and its store mean.
use Rattle.std.specs.Prelude.{◌≡◌, ℕ, ◌/◌, ◌%◌, Bool, Some, None, Ok, Option, Result}
use Rattle.words.specs.declared.Refusal.{Refusal}
use Rattle.words.specs.Refusals.{passed, then, refused_if, if_done}
use Rattle.tables.specs.Meaning.{Meaning, with_cell}
use Rattle.tables.specs.Answers.{room, put_after, clear_after}
use Rattle.stores.specs.Holding.{Holding, Earliest, not_held, not_full, with_wait, less_wait, remove_answer}
use Rattle.order.specs.Rounds.{sooner}
use Rattle.questions.specs.Checks.{wait_check}
use Rattle.questions.specs.Asking.{Told}

-- the checks of a placement ahead of the one for a circle: the two moves, that their shuttles differ, that the wait is not held
abbrev pub ahead : Meaning → Holding → (u v : ℕ) → Result Unit Refusal
ahead m h u v = then (wait_check m.shuttles m.moves u v) (not_held h u v)

-- a placement's answer up to the store's room, where b says whether v is before u
abbrev pub judged : Meaning → Holding → Bool → (u v : ℕ) → Result Unit Refusal
judged m h b u v = then (ahead m h u v) (then (refused_if b 6) (not_full h))

-- b is the table's answer to the question whether v is before u
abbrev pub Closes : Meaning → (u v : ℕ) → Bool → Type 0
Closes m u v b = (c : ℕ) × Told m v u (Ok b) c

abbrev pub Judged : Meaning → Holding → (u v : ℕ) → Result Unit Refusal → Type 0
Judged m h u v r = (b : Bool) × (passed ≡ ahead m h u v → Closes m u v b) × (r ≡ judged m h b u v)

-- the meaning with the cell of the wait u -> v at v's place, unless it holds less
abbrev pub earlier_cell : Meaning → (u v : ℕ) → Meaning
earlier_cell m u v = with_cell m (u / 4096) (v / 4096) (u % 4096) (sooner (m.cell (u / 4096) (v / 4096) (u % 4096)) (Some (v % 4096)))

-- a placement
pub record Placing (m : Meaning) (h : Holding) (u v : ℕ) (r : Result Unit Refusal) (m' : Meaning) (h' : Holding) : Type 0 where
  pub answer : (b : Bool) × (passed ≡ ahead m h u v → Closes m u v b) × (r ≡ then (judged m h b u v) (room m (m.cell (u / 4096) (v / 4096) (u % 4096))))
  pub table : m' ≡ if_done r m (earlier_cell m u v)
  pub store : h' ≡ if_done r h (with_wait h u v)

-- the meaning after a cell is to hold a value, or nothing
abbrev pub set_after : Meaning → (s t i : ℕ) → Option ℕ → Meaning
set_after m s t i None = clear_after m s t i
set_after m s t i (Some j) = put_after m s t i j

abbrev pub removable : Meaning → Holding → (u v : ℕ) → Result Unit Refusal
removable m h u v = then (wait_check m.shuttles m.moves u v) (remove_answer h u v)

-- a removal: the wait's cell is to hold what the store then says is the earliest
pub record Removing (m : Meaning) (h : Holding) (u v : ℕ) (r : Result Unit Refusal) (m' : Meaning) (h' : Holding) : Type 0 where
  pub answer : r ≡ removable m h u v
  pub store : h' ≡ if_done r h (less_wait h u v)
  pub left : Option ℕ
  pub found : passed ≡ r → Earliest h' u (v / 4096) left
  pub table : m' ≡ if_done r m (set_after m (u / 4096) (v / 4096) (u % 4096) left)
