-- The ways of `least` and `last` over the record that is read.
use Rattle.std.proofs.Common.{◌≡◌, ℕ, ◌+◌, ◌/◌, ◌<◌, ◌≤◌, max, cond, ltb, ◌≢◌, ◌⊎◌, List, Some, None, Option, sym, refl, ap, ◌∙◌, subst, subst₂, inl, inr, arith}
use Rattle.std.proofs.lemmas.Bool.{cases_lt}
use Rattle.std.proofs.lemmas.Bool.Decides.{nat_tests}
use Rattle.sparse.specs.declared.record.Entry.{Entry}
use Rattle.sparse.specs.declared.record.Node.{Node}
use Rattle.sparse.specs.declared.record.Record.{Record}
use Rattle.tables.specs.Meaning.{smaller}
use Rattle.sparse.specs.Trees.{Tree, node, In, Under, Least, Last, later, Found}
use Rattle.sparse.proofs.Kids.{Kids, under_in, fits_in}

-- an entry's place and value, by the entry's equation
place_of : (x y : Entry) → x ≡ y → (x.place ≡ y.place) × (x.value ≡ y.value)
place_of x y e = (ap (λ (n : Entry). n.place) e, ap (λ (n : Entry). n.value) e)

least_here : (a : ℕ) (e : Entry) (i : ℕ) (l r : Tree) → Under e l → Under e r → i ≤ e.place → Least (node a e l r) i (Some e.value)
least_here a e i l r ul ur h = ((e, h, refl, inl refl), all)
  where
    all : (x : Entry) → In x (node a e l r) → i ≤ x.place → e.value ≤ x.value
    all x (inl k) g = omega (arith, place_of x e k)
    all x (inr (inl k)) g = (under_in e l x ul k).0
    all x (inr (inr k)) g = (under_in e r x ur k).0

-- where the root's place is too low, the answer is that of the children
least_both : (a : ℕ) (e : Entry) (i : ℕ) (l r : Tree) (m n : Option ℕ) → e.place < i → Least l i m → Least r i n → Least (node a e l r) i (smaller m n)
least_both a e i l r None None h m n = all
  where
    all : (x : Entry) → In x (node a e l r) → x.place < i
    all x (inl k) = omega (arith, place_of x e k)
    all x (inr (inl k)) = m x k
    all x (inr (inr k)) = n x k
least_both a e i l r None (Some v) h m n = ((n.0.0, n.0.1, n.0.2, inr (inr n.0.3)), all)
  where
    all : (x : Entry) → In x (node a e l r) → i ≤ x.place → v ≤ x.value
    all x (inl k) g = omega (arith, place_of x e k)
    all x (inr (inl k)) g = omega (arith, m x k)
    all x (inr (inr k)) g = n.1 x k g
least_both a e i l r (Some v) None h m n = ((m.0.0, m.0.1, m.0.2, inr (inl m.0.3)), all)
  where
    all : (x : Entry) → In x (node a e l r) → i ≤ x.place → v ≤ x.value
    all x (inl k) g = omega (arith, place_of x e k)
    all x (inr (inl k)) g = m.1 x k g
    all x (inr (inr k)) g = omega (arith, n x k)
least_both a e i l r (Some v) (Some w) h m n = (some (cases_lt w v), all)
  where
    least : ℕ
    least = cond (ltb w v) w v

    le_both : (least ≤ v) × (least ≤ w)
    le_both = (grind (arith, nat_tests), grind (arith, nat_tests))

    all : (x : Entry) → In x (node a e l r) → i ≤ x.place → least ≤ x.value
    all x (inl k) g = omega (arith, place_of x e k)
    all x (inr (inl k)) g = omega (arith, m.1 x k g, le_both)
    all x (inr (inr k)) g = omega (arith, n.1 x k g, le_both)

    some : ((w < v) ⊎ (v ≤ w)) → (x : Entry) × (i ≤ x.place) × (x.value ≡ least) × In x (node a e l r)
    some (inl lt) = (n.0.0, n.0.1, n.0.2 ∙ grind (arith, nat_tests), inr (inr n.0.3))
    some (inr ge) = (m.0.0, m.0.1, m.0.2 ∙ grind (arith, nat_tests), inr (inl m.0.3))

module _ {g : ℕ} {xs : List Record} {a lo hi : ℕ} {x : Node} {t : Tree} (k : Kids g xs a lo hi x t) where
  pub least_top : (i : ℕ) → i ≤ x.entry.place → Least t i (Some x.entry.value)
  least_top i h = subst (λ u. Least u i (Some x.entry.value)) (sym k.is) (least_here a x.entry i k.l k.r k.left_under k.right_under h)

  pub least_halves : (i : ℕ) (m n o : Option ℕ) → o ≡ smaller m n → x.entry.place < i → Least k.l i m → Least k.r i n → Least t i o
  least_halves i m n o e h p q = subst₂ (λ u v. Least u i v) (sym k.is) (sym e) (least_both a x.entry i k.l k.r m n h p q)

  pub least_right : (i : ℕ) (n : Option ℕ) → x.entry.place < i → (lo + hi) / 2 ≤ i → Least k.r i n → Least t i n
  least_right i n h m q = least_halves i None n n refl h (λ y z. omega (arith, fits_in lo ((lo + hi) / 2) k.l y k.left_shows.fits z)) q

  pub last_none : (j : ℕ) → j < x.entry.value → Last t j None
  last_none j h = subst (λ u. Last u j None) (sym k.is) all
    where
      all : (y : Entry) → In y (node a x.entry k.l k.r) → j < y.value
      all y (inl z) = omega (arith, place_of y x.entry z)
      all y (inr (inl z)) = omega (arith, (under_in x.entry k.l y k.left_under z).0)
      all y (inr (inr z)) = omega (arith, (under_in x.entry k.r y k.right_under z).0)

-- the greatest of the root's place and that of an entry of a half, if it passes all others
last_of : (a : ℕ) (e : Entry) (j p : ℕ) (l r : Tree) → e.value ≤ j → ((e.place ≡ p) ⊎ ((y : Entry) × (y.value ≤ j) × (y.place ≡ p) × (In y l ⊎ In y r))) → e.place ≤ p →
    ((y : Entry) → In y l → y.value ≤ j → y.place ≤ p) → ((y : Entry) → In y r → y.value ≤ j → y.place ≤ p) → Last (node a e l r) j (Some p)
last_of a e j p l r h from ep ls rs = (some from, all)
  where
    some : ((e.place ≡ p) ⊎ ((y : Entry) × (y.value ≤ j) × (y.place ≡ p) × (In y l ⊎ In y r))) → (y : Entry) × (y.value ≤ j) × (y.place ≡ p) × In y (node a e l r)
    some (inl z) = (e, h, z, inl refl)
    some (inr (y, k, i, z)) = (y, k, i, inr z)

    all : (y : Entry) → In y (node a e l r) → y.value ≤ j → y.place ≤ p
    all y (inl z) g = omega (arith, place_of y e z)
    all y (inr (inl z)) g = ls y z g
    all y (inr (inr z)) g = rs y z g

module _ {g : ℕ} {xs : List Record} {a lo hi : ℕ} {x : Node} {t : Tree} (k : Kids g xs a lo hi x t) where
  pub last_right : (j q p : ℕ) → p ≡ max q x.entry.place → x.entry.value ≤ j → Last k.r j (Some q) → Last t j (Some p)
  last_right j q p e h m = subst (λ u. Last u j (Some p)) (sym k.is) (last_of a x.entry j p k.l k.r h (from (cases_lt q x.entry.place)) (omega arith) ls rs)
    where
      from : ((q < x.entry.place) ⊎ (x.entry.place ≤ q)) → (x.entry.place ≡ p) ⊎ ((y : Entry) × (y.value ≤ j) × (y.place ≡ p) × (In y k.l ⊎ In y k.r))
      from (inl z) = inl (omega arith)
      from (inr z) = inr (m.0.0, m.0.1, omega arith, inr m.0.3)

      ls : (y : Entry) → In y k.l → y.value ≤ j → y.place ≤ p
      ls y z b = omega (arith, fits_in lo ((lo + hi) / 2) k.l y k.left_shows.fits z, fits_in ((lo + hi) / 2) hi k.r m.0.0 k.right_shows.fits m.0.3)

      rs : (y : Entry) → In y k.r → y.value ≤ j → y.place ≤ p
      rs y z b = omega (arith, m.1 y z b)

  -- where the root's entry lies in the upper half, and no other there counts
  pub last_here : (j : ℕ) → (lo + hi) / 2 ≤ x.entry.place → x.entry.value ≤ j → Last k.r j None → Last t j (Some x.entry.place)
  last_here j b h n =
      subst (λ u. Last u j (Some x.entry.place)) (sym k.is)
      (last_of a x.entry j x.entry.place k.l k.r h (inl refl) (omega arith)
      (λ y z _. omega (arith, fits_in lo ((lo + hi) / 2) k.l y k.left_shows.fits z))
      (λ y z v. omega (arith, n y z)))

  pub last_left : (j p : ℕ) (m : Option ℕ) → p ≡ later m x.entry.place → x.entry.value ≤ j → Last k.r j None → Last k.l j m → Last t j (Some p)
  last_left j p None e h n o = subst (λ u. Last u j (Some p)) (sym k.is) (last_of a x.entry j p k.l k.r h (inl (sym e)) (omega arith) (λ y z b. omega (arith, o y z)) (λ y z b. omega (arith, n y z)))
  last_left j p (Some q) e h n o = subst (λ u. Last u j (Some p)) (sym k.is) (last_of a x.entry j p k.l k.r h (from (cases_lt q x.entry.place)) (omega arith) (λ y z b. omega (arith, o.1 y z b)) (λ y z b. omega (arith, n y z)))
    where
      from : ((q < x.entry.place) ⊎ (x.entry.place ≤ q)) → (x.entry.place ≡ p) ⊎ ((y : Entry) × (y.value ≤ j) × (y.place ≡ p) × (In y k.l ⊎ In y k.r))
      from (inl z) = inl (omega arith)
      from (inr z) = inr (o.0.0, o.0.1, omega arith, inl o.0.3)

module _ {g : ℕ} {xs : List Record} {a lo hi : ℕ} {x : Node} {t : Tree} (k : Kids g xs a lo hi x t) (p : ℕ) (ne : x.entry.place ≢ p) where
  -- an entry at a place other than the root's is in the half that has the place
  pub in_left : p < (lo + hi) / 2 → (e : Entry) → In e t → e.place ≡ p → In e k.l
  in_left lt e h at = go (subst (λ u. In e u) k.is h)
    where
      go : In e (node a x.entry k.l k.r) → In e k.l
      go (inl z) = absurd (ne (sym (ap (λ (n : Entry). n.place) z) ∙ at))
      go (inr (inl z)) = z
      go (inr (inr z)) = absurd (omega (arith, fits_in ((lo + hi) / 2) hi k.r e k.right_shows.fits z))

  pub in_right : (lo + hi) / 2 ≤ p → (e : Entry) → In e t → e.place ≡ p → In e k.r
  in_right le e h at = go (subst (λ u. In e u) k.is h)
    where
      go : In e (node a x.entry k.l k.r) → In e k.r
      go (inl z) = absurd (ne (sym (ap (λ (n : Entry). n.place) z) ∙ at))
      go (inr (inl z)) = absurd (omega (arith, fits_in lo ((lo + hi) / 2) k.l e k.left_shows.fits z))
      go (inr (inr z)) = z

  pub found_left : p < (lo + hi) / 2 → (m : Option ℕ) → Found k.l p m → Found t p m
  found_left lt None h = λ e z at. h e (in_left lt e z at) at
  found_left lt (Some v) h = subst (λ u. In (record { place = p; value = v }) u) (sym k.is) (inr (inl h))

  pub found_right : (lo + hi) / 2 ≤ p → (m : Option ℕ) → Found k.r p m → Found t p m
  found_right le None h = λ e z at. h e (in_right le e z at) at
  found_right le (Some v) h = subst (λ u. In (record { place = p; value = v }) u) (sym k.is) (inr (inr h))
