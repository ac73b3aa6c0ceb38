-- The answer to a call is this: the board's definition allows it, and allows no other.
use Rattle.std.specs.Prelude.{◌≡◌, ℕ, ◌≤◌, Bool, List, ◌++◌, length, drop, Ok, Option, Result}
use Rattle.words.specs.declared.Refusal.{Refusal}
use Rattle.questions.specs.declared.rounds.Way.{Way}
use Rattle.board.specs.Standing.{Limits, Waits, Placed, Found, Tells, Listed, Pushed}

-- the question of u for the shuttle t finds o, in c rounds
abbrev pub OnlyFound : Way → Limits → Waits → (u t : ℕ) → Option ℕ → ℕ → Type 0
OnlyFound w b W u t o c = Found w b W u t (Ok o) c × ((r : Result (Option ℕ) Refusal) (d : ℕ) → Found w b W u t r d → (r ≡ Ok o) × (d ≡ c))

-- y says whether u is before v, in c rounds
abbrev pub OnlyTold : Limits → Waits → (u v : ℕ) → Bool → ℕ → Type 0
OnlyTold b W u v y c = Tells b W u v (Ok y) c × ((r : Result Bool Refusal) (d : ℕ) → Tells b W u v r d → (r ≡ Ok y) × (d ≡ c))

-- the placement of u -> v is answered by a
abbrev pub OnlyPlaced : Limits → Waits → (u v : ℕ) → Result Unit Refusal → Type 0
OnlyPlaced b W u v a = Placed b W u v a × ((r : Result Unit Refusal) → Placed b W u v r → r ≡ a)

-- a slice after the codes cs are written to its front
abbrev pub fronted : List ℕ → List ℕ → List ℕ
fronted cs old = cs ++ drop (length cs) old

-- `list` writes the codes cs to the front of any slice that has room for them, and leaves what lies behind
abbrev pub OnlyListed : Limits → Waits → List ℕ → Type 0
OnlyListed b W cs =
    (old : List ℕ) → length cs ≤ length old
    → Listed b W old (fronted cs old) (Ok (length cs))
    × ((new : List ℕ) (r : Result ℕ Refusal) → Listed b W old new r → (new ≡ fronted cs old) × (r ≡ Ok (length cs)))

-- `push` of v does so
abbrev pub OnlyPushed : Limits → Waits → ℕ → List ℕ → Type 0
OnlyPushed b W v cs =
    (old : List ℕ) → length cs ≤ length old
    → Pushed b W v old (fronted cs old) (Ok (length cs))
    × ((new : List ℕ) (r : Result ℕ Refusal) → Pushed b W v old new r → (new ≡ fronted cs old) × (r ≡ Ok (length cs)))
