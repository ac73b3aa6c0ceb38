-- What the trees of a sparse tree hold, and what a change of one of them leaves of the others.
use Rattle.std.proofs.Common.{◌≡◌, ℕ, zero, suc, ◌+◌, ◌-◌, ◌/◌, ◌<◌, ◌≤◌, cond, eqb, ◌≢◌, ◌⊎◌, List, [], ◌∷◌, length, get_or, set, replicate, Some, None, Option, sym, refl, ap, ◌∙◌, subst, inl, inr, ⊎_elim, arith}
use Rattle.std.proofs.lemmas.List.{get_or-set_same, get_or-set_other}
use Rattle.std.proofs.lemmas.Bool.{cases_eq, eq-eqb, ne_eqb}
use Rattle.order.specs.Cells.{Smallest, Greatest}
use Rattle.tables.specs.Meaning.{least_of, last_of}
use Rattle.tables.proofs.Extremes.{least_only, last_only}
use Rattle.sparse.specs.declared.record.Entry.{Entry}
use Rattle.sparse.specs.declared.record.Record.{Record}
use Rattle.sparse.specs.declared.record.Record.TheVariants.{Free}
use Rattle.sparse.specs.Trees.{Tree, leaf, node, At, Holds, Own, In, Fits, Shows, Lacks, Found, Least, Last, Added, Removed, Same, Inserted, Cut}
use Rattle.sparse.specs.Form.{value_in, held_in, trees, Chain, Good, Changed}
use Rattle.sparse.proofs.Kids.{under_in, fits_in, relink}
use Rattle.sparse.proofs.Apart.{not_free, not_other, holds_same}
use Rattle.sparse.proofs.Forms.{known, value_found}
use Rattle.sparse.proofs.Chains.{On, chain_fresh, chain_free, chain_same}

pub not_empty : {A : Type 0} (o : Option ℕ) (v : ℕ) → o ≡ Some v → o ≡ None → A
not_empty o v p q = let z : ◌≡◌ {A = ℕ} 0 1 = cc in absurd (omega arith)

-- a place of a tree has one entry
fits_one : (lo hi : ℕ) (t : Tree) (x y : Entry) → Fits lo hi t → In x t → In y t → x.place ≡ y.place → x.value ≡ y.value
fits_one lo hi leaf x y f h k e = elim h [ ]
fits_one lo hi (node a z l r) x y f (inl h) (inl k) e = ap (λ (n : Entry). n.value) (h ∙ sym k)
fits_one lo hi (node a z l r) x y f (inl h) (inr (inl k)) e = absurd ((under_in z l y f.4 k).2 (sym e ∙ ap (λ (n : Entry). n.place) h))
fits_one lo hi (node a z l r) x y f (inl h) (inr (inr k)) e = absurd ((under_in z r y f.5 k).2 (sym e ∙ ap (λ (n : Entry). n.place) h))
fits_one lo hi (node a z l r) x y f (inr (inl h)) (inl k) e = absurd ((under_in z l x f.4 h).2 (e ∙ ap (λ (n : Entry). n.place) k))
fits_one lo hi (node a z l r) x y f (inr (inr h)) (inl k) e = absurd ((under_in z r x f.5 h).2 (e ∙ ap (λ (n : Entry). n.place) k))
fits_one lo hi (node a z l r) x y f (inr (inl h)) (inr (inl k)) e = fits_one lo ((lo + hi) / 2) l x y f.2 h k e
fits_one lo hi (node a z l r) x y f (inr (inr h)) (inr (inr k)) e = fits_one ((lo + hi) / 2) hi r x y f.3 h k e
fits_one lo hi (node a z l r) x y f (inr (inl h)) (inr (inr k)) e = absurd (omega (arith, e, fits_in lo ((lo + hi) / 2) l x f.2 h, fits_in ((lo + hi) / 2) hi r y f.3 k))
fits_one lo hi (node a z l r) x y f (inr (inr h)) (inr (inl k)) e = absurd (omega (arith, e, fits_in ((lo + hi) / 2) hi r x f.3 h, fits_in lo ((lo + hi) / 2) l y f.2 k))

-- what a tree holds at a place is the value of its entry there
pub value_into : (t : Tree) (p v : ℕ) → value_in t p ≡ Some v → In (record { place = p; value = v }) t
value_into t p v e = go (value_in t p) (value_found t p) e
  where
    go : (o : Option ℕ) → Found t p o → o ≡ Some v → In (record { place = p; value = v }) t
    go None f q = not_empty None v q refl
    go (Some w) f q = let same : w ≡ v = cc in subst (λ z. In (record { place = p; value = z }) t) same f

pub value_from : (lo hi : ℕ) (t : Tree) (x : Entry) → Fits lo hi t → In x t → value_in t x.place ≡ Some x.value
value_from lo hi t x f h = go (value_in t x.place) (value_found t x.place)
  where
    go : (o : Option ℕ) → Found t x.place o → o ≡ Some x.value
    go None lack = absurd (lack x h refl)
    go (Some w) k = ap (λ (z : ℕ). Some z) (fits_one lo hi t (record { place = x.place; value = w }) x f k h refl)

-- so a tree's answer to a search is what it holds
pub value_is : (lo hi : ℕ) (t : Tree) (p : ℕ) (o : Option ℕ) → Fits lo hi t → Found t p o → o ≡ value_in t p
value_is lo hi t p (Some v) f h = sym (value_from lo hi t (record { place = p; value = v }) f h)
value_is lo hi t p None f h = go (value_in t p) refl
  where
    go : (o : Option ℕ) → value_in t p ≡ o → None ≡ value_in t p
    go None e = sym e
    go (Some v) e = absurd (h (record { place = p; value = v }) (value_into t p v e) refl)

pub least_held : (n : ℕ) (t : Tree) (i : ℕ) (r : Option ℕ) → Fits 0 n t → Least t i r → r ≡ least_of (value_in t) i n
least_held n t i r f h = least_only n (value_in t) i r (go r h)
  where
    go : (r : Option ℕ) → Least t i r → Smallest n (value_in t) i r
    go None h = λ a b l k e. absurd (omega (arith, h (record { place = a; value = b }) (value_into t a b e)))
    go (Some v) h = (
      (h.0.0.place, h.0.1, (fits_in 0 n t h.0.0 f h.0.3).1, value_from 0 n t h.0.0 f h.0.3 ∙ ap (λ (w : ℕ). Some w) h.0.2),
      λ a b l k e. h.1 (record { place = a; value = b }) (value_into t a b e) l,
    )

pub last_held : (n : ℕ) (t : Tree) (j : ℕ) (r : Option ℕ) → Fits 0 n t → Last t j r → r ≡ last_of (value_in t) j n
last_held n t j r f h = last_only n (value_in t) j r (go r h)
  where
    go : (r : Option ℕ) → Last t j r → Greatest n (value_in t) j r
    go None h = λ a b l e k. omega (arith, h (record { place = a; value = b }) (value_into t a b e))
    go (Some p) h =
        let x = h.0.0 in
        let low = (fits_in 0 n t x f h.0.3).1 in (
          (omega (arith, low, h.0.2), (x.value, subst (λ q. value_in t q ≡ Some x.value) h.0.2 (value_from 0 n t x f h.0.3), h.0.1)),
          λ a b l e k. h.1 (record { place = a; value = b }) (value_into t a b e) k,
        )

-- an entry comes to a tree, or goes from it
module _ (lo hi : ℕ) (t u : Tree) (before : Fits lo hi t) (after : Fits lo hi u) where
  -- two trees hold the same at a place where they have the same entries
  like : (q : ℕ) → ((x : Entry) → In x t → x.place ≡ q → In x u) → ((x : Entry) → In x u → x.place ≡ q → In x t) → value_in u q ≡ value_in t q
  like q to from = sym (value_is lo hi u q (value_in t q) after (go (value_in t q) (value_found t q)))
    where
      go : (o : Option ℕ) → Found t q o → Found u q o
      go None h = λ x k e. h x (from x k e) e
      go (Some v) h = to (record { place = q; value = v }) h refl

  pub value_added : (e : Entry) → Lacks e.place t → Added e t u → (q : ℕ) → value_in u q ≡ cond (eqb q e.place) (Some e.value) (value_in t q)
  value_added e lack add q =
      ⊎_elim
      (λ (s : q ≡ e.place). rw (eq-eqb q e.place s) (ap (value_in u) s ∙ value_from lo hi u e after add.new))
      (λ (ne : q ≡ e.place → ⊥). rw (ne_eqb q e.place ne) (like q (λ x h _. add.old x h) (λ x h k. other x k ne (add.only x h))))
      (cases_eq q e.place)
    where
      other : (x : Entry) → x.place ≡ q → (q ≡ e.place → ⊥) → ((x ≡ e) ⊎ In x t) → In x t
      other x k ne (inl s) = absurd (ne (sym k ∙ ap (λ (n : Entry). n.place) s))
      other x k ne (inr h) = h

  pub value_removed : (p : ℕ) → Removed p t u → (q : ℕ) → value_in u q ≡ cond (eqb q p) None (value_in t q)
  value_removed p rem q =
      ⊎_elim
      (λ (s : q ≡ p). rw (eq-eqb q p s) (sym (value_is lo hi u q None after (λ x h k. rem.gone x h (k ∙ s)))))
      (λ (ne : q ≡ p → ⊥). rw (ne_eqb q p ne) (like q (λ x h k. rem.old x h (λ z. ne (sym k ∙ z))) (λ x h k. rem.only x h)))
      (cases_eq q p)

-- what the tree of a number holds
pub held_is : (n : ℕ) (roots : List (Option ℕ)) (xs : List Record) (g : ℕ) (t : Tree) → Shows g xs (get_or roots g None) 0 n t → held_in n roots xs g ≡ value_in t
unfolding held_in
held_is n roots xs g t s = ap value_in (known xs g n (get_or roots g None) 0 n t s (omega arith))

-- a change of the tree g, for which the record f was free or its own, leaves every other tree
other_stands : (g h n f : ℕ) (xs ys : List Record) (link : Option ℕ) (t s : Tree) → h ≢ g → length ys ≡ length xs → Holds g xs t → Same xs ys t f → (((k : Option ℕ) × At xs f (Free k)) ⊎ Own t f) → Shows h xs link 0 n s → Shows h ys link 0 n s
other_stands g h n f xs ys link t s ne len held same from shows =
    record { linked = shows.linked; fits = shows.fits; held = holds_same h xs ys s len (λ b o. same b (away b o from) (λ z. not_other h g xs s t b ne shows.held held o z)) shows.held }
  where
    away : (b : ℕ) → Own s b → (((k : Option ℕ) × At xs f (Free k)) ⊎ Own t f) → b ≢ f
    away b o (inl k) e = not_free h xs s f k.0 shows.held k.1 (subst (λ z. Own s z) e o)
    away b o (inr k) e = not_other h g xs s t f ne shows.held held (subst (λ z. Own s z) e o) k

-- the tree g becomes u
module _ (n g f p : ℕ) (v : Option ℕ) (roots : List (Option ℕ)) (xs ys : List Record) (link : Option ℕ) (t u : Tree) (inside : g < length roots) (len : length ys ≡ length xs)
    (old : Shows g xs (get_or roots g None) 0 n t) (new : Shows g ys link 0 n u) (values : (x : Entry) → In x u → x.value < n)
    (same : Same xs ys t f) (from : ((k : Option ℕ) × At xs f (Free k)) ⊎ Own t f) (is : (q : ℕ) → value_in u q ≡ cond (eqb q p) v (value_in t q))
    (tree : (h : ℕ) → h < trees → (s : Tree) × Shows h xs (get_or roots h None) 0 n s × ((x : Entry) → In x s → x.value < n)) where
  abbrev TreeAt : ℕ → Type 0
  TreeAt h = (s : Tree) × Shows h ys (get_or (set roots g link) h None) 0 n s × ((x : Entry) → In x s → x.value < n)

  here : Shows g ys (get_or (set roots g link) g None) 0 n u
  here = relink (sym (get_or-set_same roots g link None inside)) new

  there : (h : ℕ) → h ≢ g → (s : Tree) → Shows h xs (get_or roots h None) 0 n s → Shows h ys (get_or (set roots g link) h None) 0 n s
  there h ne s shows = relink (sym (get_or-set_other roots g h link None ne)) (other_stands g h n f xs ys (get_or roots h None) t s ne len old.held same from shows)

  pub trees_after : (h : ℕ) → h < trees → TreeAt h
  trees_after h l =
      ⊎_elim
      (λ (e : h ≡ g). subst TreeAt (sym e) (u, here, values))
      (λ (ne : h ≡ g → ⊥). let k = tree h l in (k.0, there h ne k.0 k.1, k.2))
      (cases_eq h g)

  pub cells_after : Changed n roots xs (set roots g link) ys g p v
  cells_after h q l =
      ⊎_elim
      (λ (e : h ≡ g).
      let a : held_in n (set roots g link) ys g q ≡ value_in u q = ap (λ c. c q) (held_is n (set roots g link) ys g u here) in
      let b : held_in n roots xs g q ≡ value_in t q = ap (λ c. c q) (held_is n roots xs g t old) in
      rw (eq-eqb h g e, e) (a ∙ is q ∙ ap (cond (eqb q p) v) (sym b)))
      (λ (ne : h ≡ g → ⊥).
      let k = tree h l in
      let a : held_in n (set roots g link) ys h q ≡ value_in k.0 q = ap (λ c. c q) (held_is n (set roots g link) ys h k.0 (there h ne k.0 k.1)) in
      let b : held_in n roots xs h q ≡ value_in k.0 q = ap (λ c. c q) (held_is n roots xs h k.0 k.1) in
      rw (ne_eqb h g ne) (a ∙ sym b))
      (cases_eq h g)

-- the first free record is taken
pub record Taken (xs : List Record) (next : Option ℕ) (f filled : ℕ) : Type 0 where
  pub us : List ℕ
  pub chain : Chain xs next us
  pub fresh : On f us → ⊥
  pub long : length us + 1 + filled ≡ length xs

pub taken : (xs : List Record) (head next : Option ℕ) (f filled : ℕ) → ((us : List ℕ) × Chain xs head us × (length us + filled ≡ length xs)) → head ≡ Some f → At xs f (Free next) → Taken xs next f filled
taken xs head next f filled spare e at = go spare.0 spare.1 spare.2
  where
    go : (us : List ℕ) → Chain xs head us → length us + filled ≡ length xs → Taken xs next f filled
    go [] c long = not_empty head f e c
    go (a ∷ us) c long =
        let p = c.0 in
        let fa : a ≡ f = cc in
        let i : get_or xs f (Free None) ≡ Free c.1.0 = rw fa at c.1.1.1 in
        let j = at.1 in
        let n : c.1.0 ≡ next = cc in
        record { us = us; chain = subst (λ o. Chain xs o us) n c.1.2; fresh = λ o. chain_fresh xs head a us c (subst (λ z. On z us) (sym fa) o); long = omega arith }

-- it is free, and with none every record is in use
pub head_free : (xs : List Record) (head : Option ℕ) (f filled : ℕ) → ((us : List ℕ) × Chain xs head us × (length us + filled ≡ length xs)) → head ≡ Some f → (k : Option ℕ) × At xs f (Free k)
head_free xs head f filled spare e = go spare.0 spare.1
  where
    go : (us : List ℕ) → Chain xs head us → (k : Option ℕ) × At xs f (Free k)
    go [] c = not_empty head f e c
    go (a ∷ us) c = let p = c.0 in let fa : a ≡ f = cc in (c.1.0, rw fa at c.1.1)

pub head_none : (xs : List Record) (head : Option ℕ) (filled : ℕ) → ((us : List ℕ) × Chain xs head us × (length us + filled ≡ length xs)) → head ≡ None → filled ≡ length xs
head_none xs head filled spare e = go spare.0 spare.1 spare.2
  where
    go : (us : List ℕ) → Chain xs head us → length us + filled ≡ length xs → filled ≡ length xs
    go [] c long = omega arith
    go (a ∷ us) c long = not_empty head a c.0 e

-- a cell that a tree holds empty or filled
pub lacks_held : (n g p : ℕ) (roots : List (Option ℕ)) (xs : List Record) (t : Tree) → Shows g xs (get_or roots g None) 0 n t → held_in n roots xs g p ≡ None → Lacks p t
lacks_held n g p roots xs t s e x h k =
    not_empty (value_in t p) x.value (subst (λ q. value_in t q ≡ Some x.value) k (value_from 0 n t x s.fits h)) (sym (ap (λ c. c p) (held_is n roots xs g t s)) ∙ e)

pub entry_held : (n g p v : ℕ) (roots : List (Option ℕ)) (xs : List Record) (t : Tree) → Shows g xs (get_or roots g None) 0 n t → held_in n roots xs g p ≡ Some v → In (record { place = p; value = v }) t
entry_held n g p v roots xs t s e = value_into t p v (sym (ap (λ c. c p) (held_is n roots xs g t s)) ∙ e)

-- what a table is after a cell is filled
module _ {n filled : ℕ} {head : Option ℕ} {roots : List (Option ℕ)} {xs : List Record} (good : Good n head filled roots xs) (g : ℕ) (few : g < trees) (inside : g < length roots) (ys : List Record) (len : length ys ≡ length xs) where
  module _ (f link : ℕ) (next : Option ℕ) (e : Entry) (below : e.value < n) (is : head ≡ Some f) (at : At xs f (Free next)) (lack : Lacks e.place (good.tree g few).0)
      (ins : Inserted g xs ys (good.tree g few).0 link 0 n f e) where
    values_in : (x : Entry) → ((x ≡ e) ⊎ In x (good.tree g few).0) → x.value < n
    values_in x (inl h) = subst (λ (y : Entry). y.value < n) (sym h) below
    values_in x (inr h) = (good.tree g few).2 x h

    pub grown_good : Good n next (filled + 1) (set roots g (Some link)) ys
    grown_good =
        let k = good.tree g few in
        let tk = taken xs head next f filled good.spare is at in
        record {
          tree = trees_after n g f e.place (Some e.value) roots xs ys (Some link) k.0 ins.u inside len k.1 ins.shows (λ x h. values_in x (ins.added.only x h)) ins.same (inl (next, at))
              (value_added 0 n k.0 ins.u k.1.fits ins.shows.fits e lack ins.added) good.tree;
          spare = (
            tk.us,
            chain_same xs ys next tk.us len (λ b o. ins.same b (λ z. tk.fresh (subst (λ y. On y tk.us) z o)) (λ w. let r = chain_free xs next tk.us b tk.chain o in not_free g xs k.0 b r.0 k.1.held r.1 w)) tk.chain,
            omega (arith, tk.long),
          );
        }

    pub grown_cells : Changed n roots xs (set roots g (Some link)) ys g e.place (Some e.value)
    grown_cells =
        let k = good.tree g few in
        cells_after n g f e.place (Some e.value) roots xs ys (Some link) k.0 ins.u inside len k.1 ins.shows (λ x h. values_in x (ins.added.only x h)) ins.same (inl (next, at))
        (value_added 0 n k.0 ins.u k.1.fits ins.shows.fits e lack ins.added) good.tree

  -- and after one is emptied: its record is the first free one
  module _ (f p : ℕ) (link : Option ℕ) (some : 1 ≤ filled) (cut : Cut g xs ys (good.tree g few).0 link 0 n f head p) where
    pub shrunk_good : Good n (Some f) (filled - 1) (set roots g link) ys
    shrunk_good =
        let k = good.tree g few in
        record {
          tree = trees_after n g f p None roots xs ys link k.0 cut.u inside len k.1 cut.shows (λ x h. k.2 x (cut.removed.only x h)) (λ b z o. cut.same b o) (inr cut.was)
              (value_removed 0 n k.0 cut.u k.1.fits cut.shows.fits p cut.removed) good.tree;
          spare = (
            f ∷ good.spare.0,
            (refl, (head, cut.free, chain_same xs ys head good.spare.0 len (λ b o. cut.same b (λ w. let r = chain_free xs head good.spare.0 b good.spare.1 o in not_free g xs k.0 b r.0 k.1.held r.1 w)) good.spare.1)),
            omega (arith, good.spare.2),
          );
        }

    pub shrunk_cells : Changed n roots xs (set roots g link) ys g p None
    shrunk_cells =
        let k = good.tree g few in
        cells_after n g f p None roots xs ys link k.0 cut.u inside len k.1 cut.shows (λ x h. k.2 x (cut.removed.only x h)) (λ b z o. cut.same b o) (inr cut.was)
        (value_removed 0 n k.0 cut.u k.1.fits cut.shows.fits p cut.removed) good.tree

-- a table without an entry
pub empty_good : (n : ℕ) (head : Option ℕ) (roots : List (Option ℕ)) (xs : List Record) → ((g : ℕ) → get_or roots g None ≡ None) → ((us : List ℕ) × Chain xs head us × (length us ≡ length xs)) → Good n head 0 roots xs
empty_good n head roots xs none spare = record {
  tree = λ g l. (leaf, record { linked = none g; held = tt; fits = tt }, λ x h. elim h [ ]);
  spare = (spare.0, spare.1, omega (arith, spare.2));
}

pub empty_cells : (n : ℕ) (roots : List (Option ℕ)) (xs : List Record) → ((g : ℕ) → get_or roots g None ≡ None) → (g p : ℕ) → held_in n roots xs g p ≡ None
empty_cells n roots xs none g p = ap (λ c. c p) (held_is n roots xs g leaf (record { linked = none g; held = tt; fits = tt }))

-- a list of nothing but none
pub none_below : (m g : ℕ) → get_or (replicate {A = Option ℕ} m None) g None ≡ None
none_below zero g = refl
none_below (suc m) zero = refl
none_below (suc m) (suc g) = none_below m g
