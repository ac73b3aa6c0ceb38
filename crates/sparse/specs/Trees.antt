-- The tree that the records of a slice stand for, and what its nodes hold.
use Rattle.std.specs.Prelude.{◌≡◌, ℕ, ◌+◌, ◌/◌, ◌<◌, ◌≤◌, max, ◌≢◌, ◌⊎◌, List, length, Some, None, Option, slice_index_or}
use Rattle.sparse.specs.declared.record.Entry.{Entry}
use Rattle.sparse.specs.declared.record.Record.{Record}
use Rattle.sparse.specs.declared.record.Record.TheVariants.{Free, Used}
use Rattle.sparse.specs.declared.record.Choice.{Choice}
use Rattle.sparse.specs.declared.record.Choice.TheVariants.{Neither, Left, Right}

-- a tree's node: the index of its record, its entry, the two halves
pub data Tree : Type 0 where
  leaf : Tree
  node : (at : ℕ) (entry : Entry) (left right : Tree) → Tree

abbrev pub root : Tree → Option ℕ
root leaf = None
root (node a e l r) = Some a

abbrev pub At : List Record → ℕ → Record → Type 0
At xs a x = (a < length xs) × (slice_index_or xs a (Free None) ≡ x)

-- the slice's records are those of the tree, which is the tree of number g
abbrev pub Holds : ℕ → List Record → Tree → Type 0
Holds g xs leaf = Unit {0}
Holds g xs (node a e l r) =
    At xs a (Used (record { tree = g; entry = e; left = root l; right = root r })) × Holds g xs l × Holds g xs r

-- the tree has the record at b
abbrev pub Own : Tree → ℕ → Type 0
Own leaf b = ⊥
Own (node a e l r) b = (b ≡ a) ⊎ (Own l b ⊎ Own r b)

-- the tree holds the entry x
abbrev pub In : Entry → Tree → Type 0
In x leaf = ⊥
In x (node a e l r) = (x ≡ e) ⊎ (In x l ⊎ In x r)

-- of two entries at different places, which stands above the other
abbrev pub Above : Entry → Entry → Type 0
Above e x = (e.value ≤ x.value) × (x.value ≤ e.value → x.place < e.place) × (x.place ≢ e.place)

-- each entry of the tree stands below e
abbrev pub Under : Entry → Tree → Type 0
Under e leaf = Unit {0}
Under e (node a x l r) = Above e x × Under e l × Under e r

-- the tree's places are at least lo and below hi, each node's children are in the halves of its range, and below it
abbrev pub Fits : ℕ → ℕ → Tree → Type 0
Fits lo hi leaf = Unit {0}
Fits lo hi (node a e l r) =
    (lo ≤ e.place) × (e.place < hi) × Fits lo ((lo + hi) / 2) l × Fits ((lo + hi) / 2) hi r × Under e l × Under e r

-- the records from `link` on are the tree t, over the places from lo and below hi
pub record Shows (g : ℕ) (xs : List Record) (link : Option ℕ) (lo hi : ℕ) (t : Tree) : Type 0 where
  pub linked : link ≡ root t
  pub held : Holds g xs t
  pub fits : Fits lo hi t

-- what `least` answers: the smallest value at the places from i on
abbrev pub Least : Tree → ℕ → Option ℕ → Type 0
Least t i None = (x : Entry) → In x t → x.place < i
Least t i (Some v) = ((x : Entry) × (i ≤ x.place) × (x.value ≡ v) × In x t) × ((x : Entry) → In x t → i ≤ x.place → v ≤ x.value)

-- what `last` answers: the greatest place whose value is at most j
abbrev pub Last : Tree → ℕ → Option ℕ → Type 0
Last t j None = (x : Entry) → In x t → j < x.value
Last t j (Some p) = ((x : Entry) × (x.value ≤ j) × (x.place ≡ p) × In x t) × ((x : Entry) → In x t → x.value ≤ j → x.place ≤ p)

-- the later of a place that may be missing and another
abbrev pub later : Option ℕ → ℕ → ℕ
later None b = b
later (Some x) b = max x b

-- 1 of a link to a record, else 0
abbrev pub there : Option ℕ → ℕ
there None = 0
there (Some a) = 1

-- no entry of the tree is at the place p
abbrev pub Lacks : ℕ → Tree → Type 0
Lacks p t = (x : Entry) → In x t → x.place ≢ p

-- the tree u holds the entries of t and the entry e
pub record Added (e : Entry) (t u : Tree) : Type 0 where
  pub old : (x : Entry) → In x t → In x u
  pub new : In e u
  pub only : (x : Entry) → In x u → (x ≡ e) ⊎ In x t

-- the slices ys and xs differ at most at the records of t and at f
abbrev pub Same : List Record → List Record → Tree → ℕ → Type 0
Same xs ys t f = (b : ℕ) → b ≢ f → (Own t b → ⊥) → slice_index_or ys b (Free None) ≡ slice_index_or xs b (Free None)

-- what `insert` leaves: a tree u that has the records of t and the one at f
pub record Inserted (g : ℕ) (xs ys : List Record) (t : Tree) (link : ℕ) (lo hi f : ℕ) (e : Entry) : Type 0 where
  pub u : Tree
  pub shows : Shows g ys (Some link) lo hi u
  pub added : Added e t u
  pub owned : (b : ℕ) → Own u b → (b ≡ f) ⊎ Own t b
  pub same : Same xs ys t f

-- e is the entry of the tree's root
abbrev pub Top : Entry → Tree → Type 0
Top e leaf = ⊥
Top e (node a x l r) = e ≡ x

-- the tree u holds the entries of t but that at the place p
pub record Removed (p : ℕ) (t u : Tree) : Type 0 where
  pub old : (x : Entry) → In x t → x.place ≢ p → In x u
  pub only : (x : Entry) → In x u → In x t
  pub gone : Lacks p u

-- what `pull` and `remove` leave: a tree u that has the records of t but that at f, which is free
pub record Cut (g : ℕ) (xs ys : List Record) (t : Tree) (link : Option ℕ) (lo hi f : ℕ) (next : Option ℕ) (p : ℕ) : Type 0 where
  pub u : Tree
  pub shows : Shows g ys link lo hi u
  pub removed : Removed p t u
  pub owned : (b : ℕ) → Own u b → Own t b × (b ≢ f)
  pub was : Own t f
  pub free : At ys f (Free next)
  pub same : (b : ℕ) → (Own t b → ⊥) → slice_index_or ys b (Free None) ≡ slice_index_or xs b (Free None)

-- what `choose` answers of the two halves: the link and the entry of the half whose entry stands above the other's
abbrev pub Chosen : Option ℕ → Option ℕ → Tree → Tree → Choice → Type 0
Chosen left right l r Neither = (l ≡ leaf) × (r ≡ leaf)
Chosen left right l r (Left c e) = (left ≡ Some c) × Top e l × Under e r
Chosen left right l r (Right c e) = (right ≡ Some c) × Top e r × Under e l

-- what `find` answers: the value at the place p
abbrev pub Found : Tree → ℕ → Option ℕ → Type 0
Found t p None = Lacks p t
Found t p (Some v) = In (record { place = p; value = v }) t
