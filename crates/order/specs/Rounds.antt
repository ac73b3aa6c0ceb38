-- The earliest moves after a move, found by rounds: the row of entries, a round, and what the row says once a round changes nothing.
use Rattle.std.specs.Prelude.{◌≡◌, ℕ, zero, suc, ◌<◌, ◌≤◌, min, max, cond, ◌↔◌, List, length, Some, None, Option, ◌==◌, ◌≢◌, slice_index_or, slice_set}
use Rattle.order.specs.Lists.{In}
use Rattle.order.specs.Board.{Lengths, Move, Edges, On, Before, Ordered}

-- the smallest j of all edges s.a -> t.j with a at i or later, or none
abbrev pub LeastOf : Edges → ℕ → ℕ → ℕ → Option ℕ → Type 0
LeastOf E s t i None = (a b : ℕ) → In E ((s, a), (t, b)) → i ≤ a → ⊥
LeastOf E s t i (Some j) = ((a : ℕ) × (i ≤ a) × In E ((s, a), (t, j))) × ((a b : ℕ) → In E ((s, a), (t, b)) → i ≤ a → j ≤ b)

-- f answers so, where it is asked
abbrev pub Table : Type 0
Table = ℕ → ℕ → ℕ → Option ℕ

abbrev pub Right : ℕ → Lengths → Edges → Table → Type 0
Right k len E f = (s t i : ℕ) → s < k → t < k → (s ≢ t) → i < len s → LeastOf E s t i (f s t i)

-- an entry for each shuttle: none, or a place
abbrev pub Row : Type 0
Row = List (Option ℕ)

abbrev pub entry : Row → ℕ → Option ℕ
entry xs q = slice_index_or xs q None

-- the earlier of two entries
abbrev pub sooner : Option ℕ → Option ℕ → Option ℕ
sooner None b = b
sooner (Some a) None = Some a
sooner (Some a) (Some b) = Some (min a b)

-- the later of two entries
abbrev pub later : Option ℕ → Option ℕ → Option ℕ
later None b = b
later (Some a) None = Some a
later (Some a) (Some b) = Some (max a b)

-- which of two entries is taken: `sooner` after a move, `later` before one
abbrev pub Pick : Type 0
Pick = Option ℕ → Option ℕ → Option ℕ

-- g at the entry, where that is a place
abbrev pub via : (ℕ → Option ℕ) → Option ℕ → Option ℕ
via g None = None
via g (Some p) = g p

-- shuttle r's entry is looked at for q's
abbrev pub relaxed : Pick → Table → Row → ℕ → ℕ → Row
relaxed pick f xs q r = slice_set xs q (pick (entry xs q) (via (f r q) (entry xs r)))

-- the row, after the first r shuttles other than q have been looked at for q's entry
abbrev pub pulled : Pick → Table → Row → ℕ → ℕ → Row
pulled pick f xs q zero = xs
pulled pick f xs q (suc r) = cond (r == q) (pulled pick f xs q r) (relaxed pick f (pulled pick f xs q r) q r)

-- the row, after the first q shuttles other than s have been taken
abbrev pub swept : Pick → Table → ℕ → ℕ → Row → ℕ → Row
swept pick f k s xs zero = xs
swept pick f k s xs (suc q) = cond (q == s) (swept pick f k s xs q) (pulled pick f (swept pick f k s xs q) q k)

-- the row to start from: s's entry is i, and another's is what edges lead to
abbrev pub Begins : Table → ℕ → ℕ → ℕ → Row → Type 0
Begins f k s i xs = (k ≤ length xs) × ((q : ℕ) → q < k → entry xs q ≡ cond (q == s) (Some i) (f s q i))

-- the row xs after m rounds
abbrev pub rounds : Pick → Table → ℕ → ℕ → Row → ℕ → Row
rounds pick f k s xs zero = xs
rounds pick f k s xs (suc m) = swept pick f k s (rounds pick f k s xs m) k

-- after m rounds one more changes no entry
abbrev pub Settled : Pick → Table → ℕ → ℕ → Row → ℕ → Type 0
Settled pick f k s xs m = rounds pick f k s xs (suc m) ≡ rounds pick f k s xs m

-- a question of s.i for t: rounds are run until one changes nothing; c are run, that one counted, and t's entry is then o
abbrev pub Ran : Pick → Table → ℕ → ℕ → ℕ → ℕ → Option ℕ → ℕ → Type 0
Ran pick f k s i t o c =
    (xs : Row) × Begins f k s i xs
    × ((m : ℕ) × (c ≡ suc m) × Settled pick f k s xs m × ((l : ℕ) → l < m → Settled pick f k s xs l → ⊥) × (o ≡ entry (rounds pick f k s xs m) t))

-- the entry is the earliest move of t that u is before
abbrev pub FirstAfter : ℕ → Lengths → Edges → Move → ℕ → Option ℕ → Type 0
FirstAfter k len E u t None = (j : ℕ) → Before k len E u (t, j) → ⊥
FirstAfter k len E u t (Some p) = Before k len E u (t, p) × ((j : ℕ) → Before k len E u (t, j) → p ≤ j)

-- the entry is a place at or before j
abbrev pub Upto : Option ℕ → ℕ → Type 0
Upto None j = ⊥
Upto (Some p) j = p ≤ j

-- once a round changes nothing, the row holds the earliest moves
abbrev pub Finds : Type 0
Finds =
    (k : ℕ) (len : Lengths) (E : Edges) → Ordered k len E → (f : Table) → Right k len E f → (s i : ℕ) → On k len (s, i) → (xs : Row) → Begins f k s i xs → (m : ℕ)
    → Settled sooner f k s xs m → (q : ℕ) → q < k → FirstAfter k len E (s, i) q (entry (rounds sooner f k s xs m) q)

-- with k shuttles, the round k - 1 and each later one changes nothing
abbrev pub Few : Type 0
Few =
    (k : ℕ) (len : Lengths) (E : Edges) → Ordered k len E → (f : Table) → Right k len E f → (s i : ℕ) → On k len (s, i) → (xs : Row) → Begins f k s i xs → (m : ℕ)
    → k ≤ suc (suc m) → Settled sooner f k s xs m

-- where none of the first m rounds left the row as it was, the next is below the k-th
abbrev pub Bounded : Type 0
Bounded =
    (k : ℕ) (len : Lengths) (E : Edges) → Ordered k len E → (f : Table) → Right k len E f → (s i : ℕ) → On k len (s, i) → (xs : Row) → Begins f k s i xs → 1 < k → (m : ℕ)
    → ((l : ℕ) → l < m → Settled sooner f k s xs l → ⊥) → suc m < k

-- the earliest move of t after u says which moves of t are after u
abbrev pub Tells : Type 0
Tells = (k : ℕ) (len : Lengths) (E : Edges) (u : Move) (t : ℕ) (o : Option ℕ) → FirstAfter k len E u t o → (j : ℕ) → On k len (t, j) → Before k len E u (t, j) ↔ Upto o j

-- before a move

-- the greatest place a of all edges s.a -> t.b with b at j or earlier, or none
abbrev pub GreatestOf : Edges → ℕ → ℕ → ℕ → Option ℕ → Type 0
GreatestOf E s t j None = (a b : ℕ) → In E ((s, a), (t, b)) → b ≤ j → ⊥
GreatestOf E s t j (Some p) = ((b : ℕ) × (b ≤ j) × In E ((s, p), (t, b))) × ((a b : ℕ) → In E ((s, a), (t, b)) → b ≤ j → a ≤ p)

abbrev pub RightBack : ℕ → Lengths → Edges → Table → Type 0
RightBack k len E g = (s t j : ℕ) → s < k → t < k → (s ≢ t) → j < len t → GreatestOf E s t j (g s t j)

-- from r's entry p, q's is what edges q.a -> r.b come from
abbrev pub turned : Table → Table
turned g r q p = g q r p

-- the entry is the latest move of t that is before u
abbrev pub LastBefore : ℕ → Lengths → Edges → Move → ℕ → Option ℕ → Type 0
LastBefore k len E u t None = (j : ℕ) → Before k len E (t, j) u → ⊥
LastBefore k len E u t (Some p) = Before k len E (t, p) u × ((j : ℕ) → Before k len E (t, j) u → j ≤ p)

abbrev pub FindsBack : Type 0
FindsBack =
    (k : ℕ) (len : Lengths) (E : Edges) → Ordered k len E → (g : Table) → RightBack k len E g → (s i : ℕ) → On k len (s, i) → (xs : Row) → Begins (turned g) k s i xs → (m : ℕ)
    → Settled later (turned g) k s xs m → (q : ℕ) → q < k → LastBefore k len E (s, i) q (entry (rounds later (turned g) k s xs m) q)

abbrev pub FewBack : Type 0
FewBack =
    (k : ℕ) (len : Lengths) (E : Edges) → Ordered k len E → (g : Table) → RightBack k len E g → (s i : ℕ) → On k len (s, i) → (xs : Row) → Begins (turned g) k s i xs → (m : ℕ)
    → k ≤ suc (suc m) → Settled later (turned g) k s xs m

abbrev pub BoundedBack : Type 0
BoundedBack =
    (k : ℕ) (len : Lengths) (E : Edges) → Ordered k len E → (g : Table) → RightBack k len E g → (s i : ℕ) → On k len (s, i) → (xs : Row) → Begins (turned g) k s i xs → 1 < k
    → (m : ℕ) → ((l : ℕ) → l < m → Settled later (turned g) k s xs l → ⊥) → suc m < k

-- the entry is a place at or after j
abbrev pub From : Option ℕ → ℕ → Type 0
From None j = ⊥
From (Some p) j = j ≤ p

abbrev pub TellsBack : Type 0
TellsBack = (k : ℕ) (len : Lengths) (E : Edges) (u : Move) (t : ℕ) (o : Option ℕ) → LastBefore k len E u t o → On k len u → Ordered k len E → (j : ℕ) → t < k → Before k len E (t, j) u ↔ From o j
