-- What a question answers over a table: its finding and its rounds.
use Rattle.std.specs.Prelude.{◌≡◌, ℕ, ◌/◌, ◌%◌, Bool, false, ◌⊎◌, Some, None, Ok, Err, Option, Result, ◌≢◌, nat_le}
use Rattle.words.specs.declared.Refusal.{Refusal}
use Rattle.words.specs.Refusals.{passed}
use Rattle.words.specs.Codes.{code_of}
use Rattle.tables.specs.Meaning.{Meaning}
use Rattle.order.specs.Rounds.{Ran}
use Rattle.questions.specs.declared.rounds.Way.{Way}
use Rattle.questions.specs.declared.rounds.Way.TheVariants.{After}
use Rattle.questions.specs.Checks.{moves_check, question_check}
use Rattle.questions.specs.Looking.{pick_of, look_of}

-- the code of t's move at the entry's place, or none
abbrev pub coded : ℕ → Option ℕ → Option ℕ
coded t None = None
coded t (Some p) = Some (code_of t p)

-- a question asked of the move u for the shuttle t finds o in c rounds: on u's own shuttle u itself, in none
abbrev pub Finding : Way → Meaning → (u t : ℕ) → Option ℕ → ℕ → Type 0
Finding w m u t o c =
    ((u / 4096 ≡ t) × (o ≡ Some u) × (c ≡ 0))
    ⊎ ((u / 4096 ≢ t) × ((p : Option ℕ) × (o ≡ coded t p) × Ran (pick_of w) (look_of w m) m.shuttles (u / 4096) (u % 4096) t p c))

-- the answer a to such a question, in c rounds; refused in none
abbrev pub Asked : Way → Meaning → (u t : ℕ) → Result (Option ℕ) Refusal → ℕ → Type 0
Asked w m u t (Ok o) c = (passed ≡ question_check m.shuttles m.moves u t) × Finding w m u t o c
Asked w m u t (Err e) c = (Err e ≡ question_check m.shuttles m.moves u t) × (c ≡ 0)

-- the finding is the move v or an earlier one of its shuttle
abbrev pub up_to : Option ℕ → ℕ → Bool
up_to None v = false
up_to (Some x) v = nat_le x v

-- the answer a to the question whether u is before v: what has to follow u on v's shuttle begins with v or earlier
abbrev pub Told : Meaning → (u v : ℕ) → Result Bool Refusal → ℕ → Type 0
Told m u v (Ok b) c =
    (passed ≡ moves_check m.shuttles m.moves u v) × ((o : Option ℕ) × Finding After m u (v / 4096) o c × (b ≡ up_to o v))
Told m u v (Err e) c = (Err e ≡ moves_check m.shuttles m.moves u v) × (c ≡ 0)
