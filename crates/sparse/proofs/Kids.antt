-- What is known of a tree whose root's record is read.
use Rattle.std.proofs.Common.{◌≡◌, ℕ, ◌+◌, ◌-◌, ◌*◌, ◌/◌, ◌<◌, ◌≤◌, List, get_or, Some, None, Option, sym, refl, ap, ◌∙◌, subst, inl, inr, arith}
use Rattle.sparse.specs.declared.record.Entry.{Entry}
use Rattle.sparse.specs.declared.record.Node.{Node}
use Rattle.sparse.specs.declared.record.Record.{Record}
use Rattle.sparse.specs.declared.record.Record.TheVariants.{Free, Used}
use Rattle.sparse.specs.Trees.{Tree, leaf, node, root, At, Holds, In, Above, Under, Fits, Shows, there}

-- the root is in the slice
pub reads : (g : ℕ) (xs : List Record) (link : Option ℕ) (a lo hi : ℕ) (t : Tree) → link ≡ Some a → Shows g xs link lo hi t → (x : Node) × At xs a (Used x)
reads g xs link a lo hi leaf e s = let k = s.linked in let z : ◌≡◌ {A = ℕ} 0 1 = cc in absurd (omega arith)
reads g xs link a lo hi (node b x l r) e s =
    let k = s.linked in
    let ab : b ≡ a = cc in
    (record { tree = g; entry = x; left = root l; right = root r }, rw ab at s.held.0)

pub record Kids (g : ℕ) (xs : List Record) (a lo hi : ℕ) (x : Node) (t : Tree) : Type 0 where
  pub l : Tree
  pub r : Tree
  pub is : t ≡ node a x.entry l r
  pub numbered : x.tree ≡ g
  pub low : lo ≤ x.entry.place
  pub high : x.entry.place < hi
  pub left_shows : Shows g xs x.left lo ((lo + hi) / 2) l
  pub right_shows : Shows g xs x.right ((lo + hi) / 2) hi r
  pub left_under : Under x.entry l
  pub right_under : Under x.entry r

made : (g : ℕ) (xs : List Record) (a b lo hi : ℕ) (e : Entry) (l r : Tree) (x : Node) → x ≡ record { tree = g; entry = e; left = root l; right = root r } → a ≡ b → Holds g xs (node b e l r) → Fits lo hi (node b e l r) → Kids g xs a lo hi x (node b e l r)
made g xs a b lo hi e l r x is ab h f =
    let ee : x.entry ≡ e = ap (λ (n : Node). n.entry) is in
    let ep : x.entry.place ≡ e.place = ap (λ (n : Entry). n.place) ee in
    record {
      l = l;
      r = r;
      is = cc;
      numbered = ap (λ (n : Node). n.tree) is;
      low = omega arith;
      high = omega arith;
      left_shows = record { linked = ap (λ (n : Node). n.left) is; held = h.1; fits = f.2 };
      right_shows = record { linked = ap (λ (n : Node). n.right) is; held = h.2; fits = f.3 };
      left_under = subst (λ y. Under y l) (sym ee) f.4;
      right_under = subst (λ y. Under y r) (sym ee) f.5;
    }

pub kids : {g : ℕ} {xs : List Record} {link : Option ℕ} {a lo hi : ℕ} {x : Node} (t : Tree) → link ≡ Some a → At xs a (Used x) → Shows g xs link lo hi t → Kids g xs a lo hi x t
kids leaf q y s = let e = s.linked in let z : ◌≡◌ {A = ℕ} 0 1 = cc in absurd (omega arith)
kids {g} {xs} {link} {a} {lo} {hi} {x} (node b e l r) q y s =
    let k = s.linked in
    let ab : a ≡ b = cc in
    let same : get_or xs a (Free None) ≡ Used (record { tree = g; entry = e; left = root l; right = root r }) = rw ab s.held.0.1 in
    let here = y.1 in
    let is : x ≡ record { tree = g; entry = e; left = root l; right = root r } = cc in
    made g xs a b lo hi e l r x is ab s.held s.fits

pub under_in : (e : Entry) (t : Tree) (x : Entry) → Under e t → In x t → Above e x
under_in e leaf x u h = elim h [ ]
under_in e (node a y l r) x u (inl h) = subst (λ z. Above e z) (sym h) u.0
under_in e (node a y l r) x u (inr (inl h)) = under_in e l x u.1 h
under_in e (node a y l r) x u (inr (inr h)) = under_in e r x u.2 h

pub under_all : (e : Entry) (t : Tree) → ((x : Entry) → In x t → Above e x) → Under e t
under_all e leaf h = tt
under_all e (node a y l r) h = (h y (inl refl), under_all e l (λ x k. h x (inr (inl k))), under_all e r (λ x k. h x (inr (inr k))))

pub fits_in : (lo hi : ℕ) (t : Tree) (x : Entry) → Fits lo hi t → In x t → (lo ≤ x.place) × (x.place < hi)
fits_in lo hi leaf x f h = elim h [ ]
fits_in lo hi (node a y l r) x f (inl h) = let e : x.place ≡ y.place = ap (λ (n : Entry). n.place) h in omega arith
fits_in lo hi (node a y l r) x f (inr (inl h)) =
    let k = fits_in lo ((lo + hi) / 2) l x f.2 h in omega arith
fits_in lo hi (node a y l r) x f (inr (inr h)) =
    let k = fits_in ((lo + hi) / 2) hi r x f.3 h in omega arith

pub relink : {g : ℕ} {xs : List Record} {link to : Option ℕ} {lo hi : ℕ} {t : Tree} → link ≡ to → Shows g xs link lo hi t → Shows g xs to lo hi t
relink e s = record { linked = sym e ∙ s.linked; held = s.held; fits = s.fits }

-- going down, the range halves or the link ends: this measure of both falls
there_le : (o : Option ℕ) → there o ≤ 1
there_le None = omega arith
there_le (Some a) = omega arith

pub left_falls : {g : ℕ} {xs : List Record} {a lo hi : ℕ} {x : Node} {t : Tree} → Kids g xs a lo hi x t → 2 * ((lo + hi) / 2 - lo) + there x.left < 2 * (hi - lo) + 1
left_falls {x = x} k = omega (arith, k.low, k.high, there_le x.left)

right_falls_by : (mid lo hi : ℕ) (e : Entry) (o : Option ℕ) (r : Tree) → mid ≡ (lo + hi) / 2 → lo ≤ e.place → e.place < hi → o ≡ root r → Fits mid hi r → Under e r → 2 * (hi - mid) + there o < 2 * (hi - lo) + 1
right_falls_by mid lo hi e o leaf is low high linked fits under = let z : there o ≡ 0 = ap there linked in omega arith
right_falls_by mid lo hi e o (node b y l r) is low high linked fits under =
    let z : there o ≡ 1 = ap there linked in
    let apart = under.0.2 in
    omega (arith, fits.0, fits.1, apart)

pub right_falls : {g : ℕ} {xs : List Record} {a lo hi : ℕ} {x : Node} {t : Tree} → Kids g xs a lo hi x t → 2 * (hi - (lo + hi) / 2) + there x.right < 2 * (hi - lo) + 1
right_falls {lo = lo} {hi = hi} {x = x} k =
    right_falls_by ((lo + hi) / 2) lo hi x.entry x.right k.r refl k.low k.high k.right_shows.linked k.right_shows.fits k.right_under
