-- A record belongs to at most one tree and one place of it, since it names its tree and its place.
-- So what is written at one record leaves the trees that lack it.
use Rattle.std.proofs.Common.{◌≡◌, ℕ, ◌≢◌, List, length, get_or, set, None, Option, sym, refl, ap, ◌∙◌, subst, inl, inr, arith, length-set}
use Rattle.std.proofs.lemmas.List.{get_or-set_other}
use Rattle.sparse.specs.declared.record.Node.{Node}
use Rattle.sparse.specs.declared.record.Record.{Record}
use Rattle.sparse.specs.declared.record.Record.TheVariants.{Free, Used}
use Rattle.sparse.specs.Trees.{Tree, leaf, node, root, At, Holds, Own, In, Under, Fits}
use Rattle.sparse.proofs.Kids.{under_in, fits_in}

-- what the record at b holds, where the tree has it
pub own_reads : (g : ℕ) (xs : List Record) (t : Tree) (b : ℕ) → Holds g xs t → Own t b → (x : Node) × At xs b (Used x) × (x.tree ≡ g) × In x.entry t
own_reads g xs leaf b h o = elim o [ ]
own_reads g xs (node a e l r) b h (inl o) =
    (record { tree = g; entry = e; left = root l; right = root r }, rw o h.0, refl, inl refl)
own_reads g xs (node a e l r) b h (inr (inl o)) = let k = own_reads g xs l b h.1 o in (k.0, k.1, k.2, inr (inl k.3))
own_reads g xs (node a e l r) b h (inr (inr o)) = let k = own_reads g xs r b h.2 o in (k.0, k.1, k.2, inr (inr k.3))

pub not_free : (g : ℕ) (xs : List Record) (t : Tree) (f : ℕ) (n : Option ℕ) → Holds g xs t → At xs f (Free n) → Own t f → ⊥
not_free g xs t f n h a o =
    let k = own_reads g xs t f h o in
    let p = k.1.1 in
    let q = a.1 in
    let z : ◌≡◌ {A = ℕ} 0 1 = cc in omega arith

pub not_root : (g : ℕ) (xs : List Record) (t : Tree) (a : ℕ) (x : Node) → Holds g xs t → At xs a (Used x) → Under x.entry t → Own t a → ⊥
not_root g xs t a x h y u o =
    let k = own_reads g xs t a h o in
    let p = k.1.1 in
    let q = y.1 in
    let e : k.0 ≡ x = cc in
    let here : In x.entry t = subst (λ (n : Node). In n.entry t) e k.3 in
    (under_in x.entry t x.entry u here).2 refl

pub not_both : (g : ℕ) (xs : List Record) (lo m hi : ℕ) (l r : Tree) (b : ℕ) → Holds g xs l → Holds g xs r → Fits lo m l → Fits m hi r → Own l b → Own r b → ⊥
not_both g xs lo m hi l r b h i f s o p =
    let k = own_reads g xs l b h o in
    let j = own_reads g xs r b i p in
    let v = k.1.1 in
    let w = j.1.1 in
    let e : k.0 ≡ j.0 = cc in
    let d = ap (λ (n : Node). n.entry.place) e in
    omega (arith, fits_in lo m l k.0.entry f k.3, fits_in m hi r j.0.entry s j.3)

-- another tree has other records
pub not_other : (g i : ℕ) (xs : List Record) (t u : Tree) (b : ℕ) → g ≢ i → Holds g xs t → Holds i xs u → Own t b → Own u b → ⊥
not_other g i xs t u b ne h j o p =
    let k = own_reads g xs t b h o in
    let m = own_reads i xs u b j p in
    let v = k.1.1 in
    let w = m.1.1 in
    let e : k.0 ≡ m.0 = cc in
    let d = ap (λ (n : Node). n.tree) e in
    ne (sym k.2 ∙ (d ∙ m.2))

-- the tree stands in every slice that has its records
pub holds_same : (g : ℕ) (xs ys : List Record) (t : Tree) → length ys ≡ length xs → ((b : ℕ) → Own t b → get_or ys b (Free None) ≡ get_or xs b (Free None)) → Holds g xs t → Holds g ys t
holds_same g xs ys leaf len same h = tt
holds_same g xs ys (node a e l r) len same h =
    ((omega (arith, h.0.0), same a (inl refl) ∙ h.0.1), holds_same g xs ys l len (λ b o. same b (inr (inl o))) h.1, holds_same g xs ys r len (λ b o. same b (inr (inr o))) h.2)

pub holds_set : (g : ℕ) (xs : List Record) (t : Tree) (a : ℕ) (y : Record) → (Own t a → ⊥) → Holds g xs t → Holds g (set xs a y) t
holds_set g xs t a y no_own h =
    holds_same g xs (set xs a y) t (length-set xs a y) (λ b o. get_or-set_other xs a b y (Free None) (λ e. no_own (subst (λ n. Own t n) e o))) h
