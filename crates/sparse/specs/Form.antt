-- The form that the records of a sparse tree always have: each tree number has a tree of its own, and every other record is free.
-- `formed` and `chained` say it as tests, which the table keeps; `Good` says the same in plain words, and `Forms` of proofs/ shows that they agree.
use Rattle.std.specs.Prelude.{◌≡◌, ℕ, zero, suc, ◌+◌, ◌*◌, ◌/◌, ◌<◌, Bool, true, false, cond, not, ◌&&◌, ◌||◌, List, [], ◌∷◌, length, Some, None, Option, ◌==◌, nat_le, nat_lt, slice_index_or}
use Rattle.sparse.specs.declared.record.Entry.{Entry}
use Rattle.sparse.specs.declared.record.Record.{Record}
use Rattle.sparse.specs.declared.record.Record.TheVariants.{Free, Used}
use Rattle.sparse.specs.Trees.{Tree, leaf, node, At, In, Shows}

-- the tree below a record, where `sub` gives those below its links
abbrev pub tree_at : ℕ → (Option ℕ → Tree) → Record → Tree
tree_at a sub (Free next) = leaf
tree_at a sub (Used x) = node a x.entry (sub x.left) (sub x.right)

-- the tree that the records from `link` on stand for, d levels of it
abbrev pub tree_from : ℕ → List Record → Option ℕ → Tree
tree_from zero xs link = leaf
tree_from (suc d) xs None = leaf
tree_from (suc d) xs (Some a) = tree_at a (tree_from d xs) (slice_index_or xs a (Free None))

abbrev pub first_of : Option ℕ → Option ℕ → Option ℕ
first_of None b = b
first_of (Some v) b = Some v

-- the value of the tree's entry at the place p
abbrev pub value_in : Tree → ℕ → Option ℕ
value_in leaf p = None
value_in (node a e l r) p = cond (e.place == p) (Some e.value) (first_of (value_in l p) (value_in r p))

-- what the tree of number g holds at the place p: no tree over n places has more than n levels
unfoldable pub held_in : ℕ → List (Option ℕ) → List Record → (g p : ℕ) → Option ℕ
held_in n roots xs g p = value_in (tree_from n xs (slice_index_or roots g None)) p

-- whether e stands above x: it has a smaller value, or the same at a greater place, and no place has two entries
abbrev pub is_above : Entry → Entry → Bool
is_above e x = not (x.place == e.place) && (nat_lt e.value x.value || (e.value == x.value && nat_lt x.place e.place))

-- the entries that pass a test and stand below e
abbrev pub below : (Entry → Bool) → Entry → Entry → Bool
below ok e x = ok x && is_above e x

-- whether a record is a node of the tree g over the places from lo and below hi, its entry passes the test, and so do those of each half that stand below it
abbrev pub formed_at : ℕ → (Entry → Bool) → ℕ → ℕ → ((Entry → Bool) → Option ℕ → ℕ → ℕ → Bool) → Record → Bool
formed_at g ok lo hi sub (Free next) = false
formed_at g ok lo hi sub (Used x) =
    (x.tree == g) && (nat_le lo x.entry.place && (nat_lt x.entry.place hi && (ok x.entry
    && (sub (below ok x.entry) x.left lo ((lo + hi) / 2) && sub (below ok x.entry) x.right ((lo + hi) / 2) hi))))

-- whether the records from `link` on are a tree of number g over the places from lo and below hi, of at most d levels, whose entries pass the test
abbrev pub formed : ℕ → List Record → ℕ → (Entry → Bool) → Option ℕ → ℕ → ℕ → Bool
formed zero xs g ok None lo hi = true
formed zero xs g ok (Some a) lo hi = false
formed (suc d) xs g ok None lo hi = true
formed (suc d) xs g ok (Some a) lo hi = nat_lt a (length xs) && formed_at g ok lo hi (formed d xs g) (slice_index_or xs a (Free None))

-- a value is a place below n
abbrev pub valued_below : ℕ → Entry → Bool
valued_below n x = nat_lt x.value n

-- whether the tree of number g is one over n places
unfoldable pub tree_formed : ℕ → List (Option ℕ) → List Record → ℕ → Bool
tree_formed n roots xs g = formed n xs g (valued_below n) (slice_index_or roots g None) 0 n

abbrev pub free_then : (Option ℕ → Bool) → Record → Bool
free_then sub (Free next) = sub next
free_then sub (Used x) = false

-- whether the free records from `link` on are c, and then no more
abbrev pub chained : ℕ → List Record → Option ℕ → Bool
chained zero xs None = true
chained zero xs (Some a) = false
chained (suc c) xs None = false
chained (suc c) xs (Some a) = nat_lt a (length xs) && free_then (chained c xs) (slice_index_or xs a (Free None))

-- the free records from `link` on are those at us
abbrev pub Chain : List Record → Option ℕ → List ℕ → Type 0
Chain xs link [] = link ≡ None
Chain xs link (a ∷ us) = (link ≡ Some a) × ((next : Option ℕ) × At xs a (Free next) × Chain xs next us)

-- how many trees there are: one for each ordered pair of sixteen shuttles
abbrev pub trees : ℕ
trees = 256

-- the number of the tree of the shuttles s and t
abbrev pub tree_number : ℕ → ℕ → ℕ
tree_number s t = s * 16 + t

-- in plain words: each number has a tree over n places with values below n, and the free records are as many as those that no filled cell needs.
-- No two trees share a record, since each record names its tree and its place
pub record Good (n : ℕ) (head : Option ℕ) (filled : ℕ) (roots : List (Option ℕ)) (xs : List Record) : Type 0 where
  pub tree : (g : ℕ) → g < trees → (t : Tree) × Shows g xs (slice_index_or roots g None) 0 n t × ((x : Entry) → In x t → x.value < n)
  pub spare : (us : List ℕ) × Chain xs head us × (length us + filled ≡ length xs)

-- the cells of the trees are those of before, but that of the tree g at the place p is v
abbrev pub Changed : ℕ → List (Option ℕ) → List Record → List (Option ℕ) → List Record → (g p : ℕ) → Option ℕ → Type 0
Changed n roots xs roots' xs' g p v =
    (h q : ℕ) → h < trees → held_in n roots' xs' h q ≡ cond (h == g && q == p) v (held_in n roots xs h q)
