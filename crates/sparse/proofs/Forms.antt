-- The tests that a sparse tree keeps say what `Good` says.
use Rattle.std.proofs.Common.{◌≡◌, ℕ, zero, suc, ◌+◌, ◌-◌, ◌/◌, ◌<◌, ◌≤◌, Bool, true, false, cond, eqb, ◌⊎◌, List, [], ◌∷◌, length, get_or, Some, None, Option, sym, refl, ap, ◌∙◌, subst, inl, inr, ⊎_elim, arith}
use Rattle.std.proofs.lemmas.Bool.{and_parts, and_from, ltb-true, leb-true, eqb-true, lt-ltb, le-leb, eq-eqb, cases_eq, cases_Bool, eqb-false}
use Rattle.std.proofs.lemmas.Bool.Decides.{nat_tests}
use Rattle.sparse.specs.declared.record.Entry.{Entry}
use Rattle.sparse.specs.declared.record.Node.{Node}
use Rattle.sparse.specs.declared.record.Record.{Record}
use Rattle.sparse.specs.declared.record.Record.TheVariants.{Free, Used}
use Rattle.sparse.specs.Trees.{Tree, leaf, node, root, In, Above, Under, Fits, Shows, Found}
use Rattle.sparse.specs.Form.{tree_at, tree_from, first_of, value_in, is_above, below, formed_at, formed, valued_below, tree_formed, free_then, chained, Chain, trees, Good}
use Rattle.sparse.proofs.Kids.{under_in, under_all}

-- an equation that cannot be
no : {A : Type 0} → false ≡ true → A
no e = let z : ◌≡◌ {A = ℕ} 0 1 = cc in absurd (omega arith)

none : {A : Type 0} {v : ℕ} → None ≡ Some v → A
none e = let z : ◌≡◌ {A = ℕ} 0 1 = cc in absurd (omega arith)

above_from : (e x : Entry) → is_above e x ≡ true → Above e x
above_from e x h = (grind (arith, nat_tests), (λ l. grind (arith, nat_tests)), λ p. grind (arith, nat_tests))

above_to : (e x : Entry) → Above e x → is_above e x ≡ true
above_to e x h = let a = h.0 in let b = h.1 in let c = h.2 in go (cases_eq e.value x.value)
  where
    go : ((e.value ≡ x.value) ⊎ (e.value ≡ x.value → ⊥)) → is_above e x ≡ true
    go (inl q) = let p = h.1 (omega arith) in grind (arith, nat_tests)
    go (inr q) = let p : e.value < x.value = omega (arith, h.0) in let n = h.2 in grind (arith, nat_tests)

-- each entry of the tree passes the test
abbrev Passes : (Entry → Bool) → Tree → Type 0
Passes ok t = (x : Entry) → In x t → ok x ≡ true

-- the upper half of a node is narrower than its range, but for that of one place, which has no entry
narrow : (lo hi d : ℕ) (e : Entry) (r : Tree) → Under e r → Fits ((lo + hi) / 2) hi r → lo ≤ e.place → e.place < hi → hi ≤ lo + suc d → (r ≡ leaf) ⊎ (hi ≤ (lo + hi) / 2 + d)
narrow lo hi d e leaf u f low high w = inl refl
narrow lo hi d e (node b y m n) u f low high w = inr (omega (arith, f.0, f.1, u.0.2))

-- from the test to the tree
module _ (xs : List Record) (g : ℕ) where
  abbrev Shown : (Entry → Bool) → Option ℕ → ℕ → ℕ → Tree → Type 0
  Shown ok link lo hi t = Shows g xs link lo hi t × Passes ok t

  whole : (x : Node) (l r : Tree) → x.tree ≡ g → x.left ≡ root l → x.right ≡ root r → x ≡ record { tree = g; entry = x.entry; left = root l; right = root r }
  whole x l r a b c = λ i. record { tree = a i; entry = x.entry; left = b i; right = c i }

  under : (ok : Entry → Bool) (e : Entry) (t : Tree) → Passes (below ok e) t → Under e t
  under ok e t h = under_all e t (λ y z. above_from e y (and_parts _ _ (h y z)).1)

  passes : (ok : Entry → Bool) (a : ℕ) (e : Entry) (l r : Tree) → ok e ≡ true → Passes (below ok e) l → Passes (below ok e) r → Passes ok (node a e l r)
  passes ok a e l r here p q y (inl h) = ap ok h ∙ here
  passes ok a e l r here p q y (inr (inl h)) = (and_parts _ _ (p y h)).0
  passes ok a e l r here p q y (inr (inr h)) = (and_parts _ _ (q y h)).0

  -- one node, where its halves are shown
  shown_at : (sub : Option ℕ → Tree) (test : (Entry → Bool) → Option ℕ → ℕ → ℕ → Bool) (each : (ok : Entry → Bool) (link : Option ℕ) (lo hi : ℕ) → test ok link lo hi ≡ true → Shown ok link lo hi (sub link))
      (ok : Entry → Bool) (a lo hi : ℕ) (y : Record) → get_or xs a (Free None) ≡ y → a < length xs → formed_at g ok lo hi test y ≡ true → Shown ok (Some a) lo hi (tree_at a sub y)
  shown_at sub test each ok a lo hi (Free n) is inside f = no f
  shown_at sub test each ok a lo hi (Used x) is inside f =
      let p = and_parts _ _ f in
      let q = and_parts _ _ p.1 in
      let r = and_parts _ _ q.1 in
      let s = and_parts _ _ r.1 in
      let u = and_parts _ _ s.1 in
      let l = each (below ok x.entry) x.left lo ((lo + hi) / 2) u.0 in
      let m = each (below ok x.entry) x.right ((lo + hi) / 2) hi u.1 in (
        record {
          linked = refl;
          held = ((inside, is ∙ ap (λ (z : Node). Used z) (whole x (sub x.left) (sub x.right) (eqb-true _ _ p.0) l.0.linked m.0.linked)), l.0.held, m.0.held);
          fits = (leb-true _ _ q.0, ltb-true _ _ r.0, l.0.fits, m.0.fits, under ok x.entry (sub x.left) l.1, under ok x.entry (sub x.right) m.1);
        },
        passes ok a x.entry (sub x.left) (sub x.right) s.0 l.1 m.1,
      )

  pub shown : (d : ℕ) (ok : Entry → Bool) (link : Option ℕ) (lo hi : ℕ) → formed d xs g ok link lo hi ≡ true → Shown ok link lo hi (tree_from d xs link)
  shown zero ok None lo hi e = (record { linked = refl; held = tt; fits = tt }, λ x h. elim h [ ])
  shown zero ok (Some a) lo hi e = no e
  shown (suc d) ok None lo hi e = (record { linked = refl; held = tt; fits = tt }, λ x h. elim h [ ])
  shown (suc d) ok (Some a) lo hi e =
      let p = and_parts _ _ e in
      shown_at (tree_from d xs) (formed d xs g) (shown d) ok a lo hi (get_or xs a (Free None)) refl (ltb-true a (length xs) p.0) p.1

  -- and back
  formed_none : (d : ℕ) (ok : Entry → Bool) (lo hi : ℕ) → formed d xs g ok None lo hi ≡ true
  formed_none zero ok lo hi = refl
  formed_none (suc d) ok lo hi = refl

  pub tested : (d : ℕ) (ok : Entry → Bool) (link : Option ℕ) (lo hi : ℕ) (t : Tree) → Shows g xs link lo hi t → Passes ok t → hi ≤ lo + d → formed d xs g ok link lo hi ≡ true
  tested d ok link lo hi leaf s p w = ap (λ z. formed d xs g ok z lo hi) s.linked ∙ formed_none d ok lo hi
  tested zero ok link lo hi (node a e l r) s p w = absurd (omega (arith, s.fits.0, s.fits.1))
  tested (suc d) ok link lo hi (node a e l r) s p w =
      let f = s.fits in
      let h = s.held in
      let both : (t : Tree) → Under e t → Passes ok t → Passes (below ok e) t = λ t u q x z. and_from _ _ (q x z) (above_to e x (under_in e t x u z)) in
      let upper : formed d xs g (below ok e) (root r) ((lo + hi) / 2) hi ≡ true =
      ⊎_elim
      (λ (z : r ≡ leaf). ap (λ y. formed d xs g (below ok e) (root y) ((lo + hi) / 2) hi) z ∙ formed_none d (below ok e) ((lo + hi) / 2) hi)
      (λ (z : hi ≤ (lo + hi) / 2 + d). tested d (below ok e) (root r) ((lo + hi) / 2) hi r (record { linked = refl; held = h.2; fits = f.3 }) (both r f.5 (λ x y. p x (inr (inr y)))) z)
      (narrow lo hi d e r f.5 f.3 f.0 f.1 w) in
      let lower = tested d (below ok e) (root l) lo ((lo + hi) / 2) l (record { linked = refl; held = h.1; fits = f.2 }) (both l f.4 (λ x z. p x (inr (inl z)))) (omega (arith, f.0, f.1)) in
      let sub : formed_at g ok lo hi (formed d xs g) (Used (record { tree = g; entry = e; left = root l; right = root r })) ≡ true =
      and_from _ _ (eq-eqb g g refl) (and_from _ _ (le-leb _ _ f.0) (and_from _ _ (lt-ltb _ _ f.1) (and_from _ _ (p e (inl refl)) (and_from _ _ lower upper)))) in
      ap (λ z. formed (suc d) xs g ok z lo hi) s.linked ∙ and_from _ _ (lt-ltb _ _ h.0.0) (ap (formed_at g ok lo hi (formed d xs g)) h.0.1 ∙ sub)

  -- the tree that the records stand for is the only one that they show
  tree_none : (d : ℕ) → tree_from d xs None ≡ leaf
  tree_none zero = refl
  tree_none (suc d) = refl

  pub known : (d : ℕ) (link : Option ℕ) (lo hi : ℕ) (t : Tree) → Shows g xs link lo hi t → hi ≤ lo + d → tree_from d xs link ≡ t
  known d link lo hi leaf s w = ap (tree_from d xs) s.linked ∙ tree_none d
  known zero link lo hi (node a e l r) s w = absurd (omega (arith, s.fits.0, s.fits.1))
  known (suc d) link lo hi (node a e l r) s w =
      let f = s.fits in
      let h = s.held in
      let lower = known d (root l) lo ((lo + hi) / 2) l (record { linked = refl; held = h.1; fits = f.2 }) (omega (arith, f.0, f.1)) in
      let upper : tree_from d xs (root r) ≡ r =
      ⊎_elim
      (λ (z : r ≡ leaf). ap (λ y. tree_from d xs (root y)) z ∙ tree_none d ∙ sym z)
      (λ (z : hi ≤ (lo + hi) / 2 + d). known d (root r) ((lo + hi) / 2) hi r (record { linked = refl; held = h.2; fits = f.3 }) z)
      (narrow lo hi d e r f.5 f.3 f.0 f.1 w) in
      ap (tree_from (suc d) xs) s.linked ∙ ap (tree_at a (tree_from d xs)) h.0.1 ∙ (λ i. node a e (lower i) (upper i))

-- what a tree holds at a place
pub value_found : (t : Tree) (p : ℕ) → Found t p (value_in t p)
value_found leaf p = λ x h. elim h [ ]
value_found (node a e l r) p = go (cases_Bool (eqb e.place p)) (value_in l p) (value_in r p) (value_found l p) (value_found r p)
  where
    here : (t : Bool) (l r : Option ℕ) → t ≡ true → cond t (Some e.value) (first_of l r) ≡ Some e.value
    here t l r h = rw h

    there : (t : Bool) (l r : Option ℕ) → t ≡ false → cond t (Some e.value) (first_of l r) ≡ first_of l r
    there t l r h = rw h

    way : (m n : Option ℕ) → eqb e.place p ≡ false → Found l p m → Found r p n → Found (node a e l r) p (first_of m n)
    way (Some v) n ne i j = inr (inl i)
    way None (Some v) ne i j = inr (inr j)
    way None None ne i j = lacks
      where
        lacks : (x : Entry) → In x (node a e l r) → x.place ≡ p → ⊥
        lacks x (inl h) at = eqb-false e.place p ne (sym (ap (λ (y : Entry). y.place) h) ∙ at)
        lacks x (inr (inl h)) at = i x h at
        lacks x (inr (inr h)) at = j x h at

    go : ((eqb e.place p ≡ true) ⊎ (eqb e.place p ≡ false)) → (m n : Option ℕ) → Found l p m → Found r p n → Found (node a e l r) p (cond (eqb e.place p) (Some e.value) (first_of m n))
    go (inl t) m n i j = subst (λ o. Found (node a e l r) p o) (sym (here (eqb e.place p) m n t)) (subst (λ q. In (record { place = q; value = e.value }) (node a e l r)) (eqb-true e.place p t) (inl refl))
    go (inr t) m n i j = subst (λ o. Found (node a e l r) p o) (sym (there (eqb e.place p) m n t)) (way m n t i j)

-- the free records
chain_at : (c a : ℕ) (xs : List Record) (test : Option ℕ → Bool) → ((link : Option ℕ) → test link ≡ true → (us : List ℕ) × Chain xs link us × (length us ≡ c)) →
    (y : Record) → get_or xs a (Free None) ≡ y → free_then test y ≡ true → a < length xs → (us : List ℕ) × Chain xs (Some a) us × (length us ≡ suc c)
chain_at c a xs test rest (Used x) is f inside = no f
chain_at c a xs test rest (Free next) is f inside = let k = rest next f in (a ∷ k.0, (refl, (next, (inside, is), k.1)), ap suc k.2)

pub chain_from_test : (c : ℕ) (xs : List Record) (link : Option ℕ) → chained c xs link ≡ true → (us : List ℕ) × Chain xs link us × (length us ≡ c)
chain_from_test zero xs None e = ([], refl, refl)
chain_from_test zero xs (Some a) e = no e
chain_from_test (suc c) xs None e = no e
chain_from_test (suc c) xs (Some a) e = let p = and_parts _ _ e in chain_at c a xs (chained c xs) (chain_from_test c xs) (get_or xs a (Free None)) refl p.1 (ltb-true _ _ p.0)

pub chain_to_test : (xs : List Record) (link : Option ℕ) (us : List ℕ) → Chain xs link us → chained (length us) xs link ≡ true
chain_to_test xs link [] c = ap (chained 0 xs) c
chain_to_test xs link (a ∷ us) c =
    ap (chained (suc (length us)) xs) c.0 ∙ and_from _ _ (lt-ltb _ _ c.1.1.0) (ap (free_then (chained (length us) xs)) c.1.1.1 ∙ chain_to_test xs c.1.0 us c.1.2)

-- the tests give the form
pub good_from : (n filled : ℕ) (head : Option ℕ) (roots : List (Option ℕ)) (xs : List Record) → filled ≤ length xs → ((g : ℕ) → g < trees → tree_formed n roots xs g ≡ true) → chained (length xs - filled) xs head ≡ true → Good n head filled roots xs
unfolding tree_formed
good_from n filled head roots xs few formed free =
    let k = chain_from_test (length xs - filled) xs head free in
    record {
      tree = λ g l. let s = shown xs g n (valued_below n) (get_or roots g None) 0 n (formed g l) in (tree_from n xs (get_or roots g None), s.0, λ x h. ltb-true _ _ (s.1 x h));
      spare = (k.0, k.1, omega (arith, k.2));
    }

-- the form gives the tests
pub trees_tested : (n filled : ℕ) (head : Option ℕ) (roots : List (Option ℕ)) (xs : List Record) → Good n head filled roots xs → (g : ℕ) → g < trees → tree_formed n roots xs g ≡ true
unfolding tree_formed
trees_tested n filled head roots xs good g l =
    let k = good.tree g l in
    tested xs g n (valued_below n) (get_or roots g None) 0 n k.0 k.1 (λ x h. lt-ltb _ _ (k.2 x h)) (omega arith)

pub spare_tested : (n filled : ℕ) (head : Option ℕ) (roots : List (Option ℕ)) (xs : List Record) → Good n head filled roots xs → chained (length xs - filled) xs head ≡ true
spare_tested n filled head roots xs good =
    let k = good.spare in
    let c : length k.0 ≡ length xs - filled = omega (arith, k.2) in
    ap (λ z. chained z xs head) (sym c) ∙ chain_to_test xs head k.0 k.1

pub spare_few : (n filled : ℕ) (head : Option ℕ) (roots : List (Option ℕ)) (xs : List Record) → Good n head filled roots xs → filled ≤ length xs
spare_few n filled head roots xs good = omega (arith, good.spare.2)
