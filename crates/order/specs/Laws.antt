-- The laws of the order, as statements.
use Rattle.std.specs.Prelude.{◌≡◌, ℕ, ◌*◌, Bool, true, ◌↔◌, List, [], ◌∷◌, length, ◌≢◌}
use Rattle.order.specs.Lists.{In, Earlier, parted}
use Rattle.order.specs.Board.{Lengths, Move, Edges, On, Before, Running, Ordered, rows, total}

-- B says of every move whether it is before u
abbrev pub Decides : ℕ → Lengths → Edges → (Move → Bool) → Move → Type 0
Decides k len E B u = (x : Move) → (B x ≡ true) ↔ Before k len E x u

-- what is before another move stands earlier in every running order
abbrev pub Sound : Type 0
Sound = (k : ℕ) (len : Lengths) (E : Edges) (L : List Move) → Running k len E L → (u v : Move) → Before k len E u v → (u ≢ v) → Earlier L u v

-- with fewer edges a running order is one still
abbrev pub Removes : Type 0
Removes = (k : ℕ) (len : Lengths) (E V : Edges) (L : List Move) → Running k len E L → ((w : Move × Move) → In V w → In E w) → Running k len V L

-- an edge u -> v where v is not before u is kept by what is before u, and then the rest
abbrev pub Places : Type 0
Places =
    (k : ℕ) (len : Lengths) (E : Edges) (L : List Move) → Running k len E L → (u v : Move) → On k len u → On k len v → (B : Move → Bool) → Decides k len E B u
    → (Before k len E v u → ⊥) → Running k len ((u, v) ∷ E) (parted B L)

-- where u is not before v, some running order has v earlier
abbrev pub Completes : Type 0
Completes = (k : ℕ) (len : Lengths) (E : Edges) → Ordered k len E → (u v : Move) → On k len u → On k len v → (Before k len E u v → ⊥) → (M : List Move) × Running k len E M × Earlier M v u

-- u is before another move v exactly where every running order has u earlier
abbrev pub Exact : Type 0
Exact = (k : ℕ) (len : Lengths) (E : Edges) → Ordered k len E → (u v : Move) → On k len u → On k len v → (u ≢ v) → Before k len E u v ↔ ((M : List Move) → Running k len E M → Earlier M u v)

-- with the edge u -> v there is a running order exactly where v is not before u
abbrev pub Circles : Type 0
Circles = (k : ℕ) (len : Lengths) (E : Edges) → Ordered k len E → (u v : Move) → On k len u → On k len v → Ordered k len ((u, v) ∷ E) ↔ (Before k len E v u → ⊥)

-- with no edges, the shuttles one after the other are a running order
abbrev pub Starts : Type 0
Starts = (k : ℕ) (len : Lengths) → Running k len [] (rows k len)

-- where the edges have a running order, a test says what is before u
abbrev pub Tested : Type 0
Tested = (k : ℕ) (len : Lengths) (E : Edges) → Ordered k len E → (u : Move) → (B : Move → Bool) × Decides k len E B u

-- a running order has as many moves as the shuttles have together
abbrev pub Counted : Type 0
Counted = (k : ℕ) (len : Lengths) (E : Edges) (L : List Move) → Running k len E L → length L ≡ total k len

-- k shuttles of n moves each have k * n
abbrev pub Uniform : Type 0
Uniform = (k n : ℕ) → total k (λ _. n) ≡ k * n
