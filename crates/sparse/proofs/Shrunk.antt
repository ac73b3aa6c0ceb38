-- What `choose`, `pull` and `remove` answer and leave.
use Rattle.std.proofs.Common.{◌≡◌, ℕ, ◌+◌, ◌/◌, ◌<◌, ◌≤◌, ◌≢◌, ◌⊎◌, List, length, set, Some, None, Option, sym, refl, ap, ◌∙◌, subst, subst₂, inl, inr, arith, length-set}
use Rattle.std.proofs.lemmas.List.{get_or-set_same, get_or-set_other}
use Rattle.sparse.specs.declared.record.Entry.{Entry}
use Rattle.sparse.specs.declared.record.Node.{Node}
use Rattle.sparse.specs.declared.record.Record.{Record}
use Rattle.sparse.specs.declared.record.Record.TheVariants.{Free, Used}
use Rattle.sparse.specs.Trees.{Tree, leaf, node, root, At, Own, In, Above, Under, Fits, Top, Removed, Cut}
use Rattle.sparse.proofs.Kids.{Kids, under_in, under_all, fits_in}
use Rattle.sparse.proofs.Apart.{not_root, not_both, holds_same, holds_set}

pub top_in : (e : Entry) (t : Tree) → Top e t → In e t
top_in e leaf h = elim h [ ]
top_in e (node a x l r) h = inl h

pub top_kids : {g : ℕ} {xs : List Record} {a lo hi : ℕ} {x : Node} {t : Tree} → Kids g xs a lo hi x t → Top x.entry t
top_kids {g} {xs} {a} {lo} {hi} {x} {t} k = subst (λ u. Top x.entry u) (sym k.is) refl

-- an entry from elsewhere that stands above the root's stands above all
pub over : (e f : Entry) (t : Tree) (lo hi : ℕ) → Fits lo hi t → Top f t → Above e f → ((e.place < lo) ⊎ (hi ≤ e.place)) → Under e t
over e f leaf lo hi fit top above out = tt
over e f (node a x l r) lo hi fit top above out = under_all e (node a x l r) all
  where
    fp : f.place ≡ x.place
    fp = ap (λ (n : Entry). n.place) top

    fv : f.value ≡ x.value
    fv = ap (λ (n : Entry). n.value) top

    all : (y : Entry) → In y (node a x l r) → Above e y
    all y (inl h) = subst (λ z. Above e z) (top ∙ sym h) above
    all y (inr (inl h)) = let p = under_in x l y fit.4 h in let q = fits_in lo hi (node a x l r) y fit (inr (inl h)) in omega (arith, fp, fv)
    all y (inr (inr h)) = let p = under_in x r y fit.5 h in let q = fits_in lo hi (node a x l r) y fit (inr (inr h)) in omega (arith, fp, fv)

-- the entries of two halves are at different places
pub halves_differ : (lo mid hi : ℕ) (l r : Tree) (e f : Entry) → Fits lo mid l → Fits mid hi r → Top e l → Top f r → e.place ≢ f.place
halves_differ lo mid hi l r e f p q h k = let i = fits_in lo mid l e p (top_in e l h) in let j = fits_in mid hi r f q (top_in f r k) in omega arith

pub left_over : (lo mid hi : ℕ) (l r : Tree) (e f : Entry) → Fits lo mid l → Fits mid hi r → Top e l → Top f r → Above e f → Under e r
left_over lo mid hi l r e f p q h k above = over e f r mid hi q k above (inl (fits_in lo mid l e p (top_in e l h)).1)

pub right_over : (lo mid hi : ℕ) (l r : Tree) (e f : Entry) → Fits lo mid l → Fits mid hi r → Top e l → Top f r → Above f e → Under f l
right_over lo mid hi l r e f p q h k above = over f e l lo mid p h above (inr (fits_in mid hi r f q (top_in f r k)).0)

-- two entries of a tree at the root's place are one
top_only : (e x : Entry) (t : Tree) (lo hi : ℕ) → Fits lo hi t → Top e t → In x t → (x ≡ e) ⊎ (x.place ≢ e.place)
top_only e x leaf lo hi fit top h = elim h [ ]
top_only e x (node a y l r) lo hi fit top (inl h) = inl (h ∙ sym top)
top_only e x (node a y l r) lo hi fit top (inr (inl h)) = inr (λ k. (under_in y l x fit.4 h).2 (k ∙ ap (λ (n : Entry). n.place) top))
top_only e x (node a y l r) lo hi fit top (inr (inr h)) = inr (λ k. (under_in y r x fit.5 h).2 (k ∙ ap (λ (n : Entry). n.place) top))

-- the root's entry stands above what is left without it
top_under : (e : Entry) (t u : Tree) (lo hi : ℕ) → Fits lo hi t → Top e t → Removed e.place t u → Under e u
top_under e leaf u lo hi fit top rem = elim top [ ]
top_under e (node a y l r) u lo hi fit top rem = under_all e u (λ x h. go x h (rem.only x h))
  where
    go : (x : Entry) → In x u → In x (node a y l r) → Above e x
    go x h (inl k) = absurd (rem.gone x h (ap (λ (n : Entry). n.place) (k ∙ sym top)))
    go x h (inr (inl k)) = subst (λ z. Above z x) (sym top) (under_in y l x fit.4 k)
    go x h (inr (inr k)) = subst (λ z. Above z x) (sym top) (under_in y r x fit.5 k)

-- an entry above the whole tree stands above what is left of it
less_under : (e : Entry) (t u : Tree) (p : ℕ) → Under e t → Removed p t u → Under e u
less_under e t u p un rem = under_all e u (λ x h. under_in e t x un (rem.only x h))

module _ (a : ℕ) (o n : Entry) (l r m : Tree) (lo hi : ℕ) where
  -- the root's entry goes, and that of the left half comes up
  pulled_left : Under o l → Under o r → Fits lo hi l → Top n l → Removed n.place l m → Removed o.place (node a o l r) (node a n m r)
  pulled_left ul ur fit top rem = record { old = old; only = only; gone = gone }
    where
      half : (x : Entry) → In x l → ((x ≡ n) ⊎ (x.place ≢ n.place)) → In x (node a n m r)
      half x h (inl k) = inl k
      half x h (inr k) = inr (inl (rem.old x h k))

      old : (x : Entry) → In x (node a o l r) → x.place ≢ o.place → In x (node a n m r)
      old x (inl h) ne = absurd (ne (ap (λ (y : Entry). y.place) h))
      old x (inr (inl h)) ne = half x h (top_only n x l lo hi fit top h)
      old x (inr (inr h)) ne = inr (inr h)

      only : (x : Entry) → In x (node a n m r) → In x (node a o l r)
      only x (inl h) = inr (inl (subst (λ y. In y l) (sym h) (top_in n l top)))
      only x (inr (inl h)) = inr (inl (rem.only x h))
      only x (inr (inr h)) = inr (inr h)

      gone : (x : Entry) → In x (node a n m r) → x.place ≢ o.place
      gone x (inl h) k = (under_in o l n ul (top_in n l top)).2 (sym (ap (λ (y : Entry). y.place) h) ∙ k)
      gone x (inr (inl h)) k = (under_in o l x ul (rem.only x h)).2 k
      gone x (inr (inr h)) k = (under_in o r x ur h).2 k

  pulled_right : Under o l → Under o r → Fits lo hi r → Top n r → Removed n.place r m → Removed o.place (node a o l r) (node a n l m)
  pulled_right ul ur fit top rem = record { old = old; only = only; gone = gone }
    where
      half : (x : Entry) → In x r → ((x ≡ n) ⊎ (x.place ≢ n.place)) → In x (node a n l m)
      half x h (inl k) = inl k
      half x h (inr k) = inr (inr (rem.old x h k))

      old : (x : Entry) → In x (node a o l r) → x.place ≢ o.place → In x (node a n l m)
      old x (inl h) ne = absurd (ne (ap (λ (y : Entry). y.place) h))
      old x (inr (inl h)) ne = inr (inl h)
      old x (inr (inr h)) ne = half x h (top_only n x r lo hi fit top h)

      only : (x : Entry) → In x (node a n l m) → In x (node a o l r)
      only x (inl h) = inr (inr (subst (λ y. In y r) (sym h) (top_in n r top)))
      only x (inr (inl h)) = inr (inl h)
      only x (inr (inr h)) = inr (inr (rem.only x h))

      gone : (x : Entry) → In x (node a n l m) → x.place ≢ o.place
      gone x (inl h) k = (under_in o r n ur (top_in n r top)).2 (sym (ap (λ (y : Entry). y.place) h) ∙ k)
      gone x (inr (inl h)) k = (under_in o l x ul h).2 k
      gone x (inr (inr h)) k = (under_in o r x ur (rem.only x h)).2 k

-- an entry of a half goes, and the root's stays
removed_left : (a p : ℕ) (o : Entry) (l r m : Tree) (hi : ℕ) (mid : ℕ) → o.place ≢ p → p < mid → Fits mid hi r → Removed p l m → Removed p (node a o l r) (node a o m r)
removed_left a p o l r m hi mid ne lt fit rem = record { old = old; only = only; gone = gone }
  where
    old : (x : Entry) → In x (node a o l r) → x.place ≢ p → In x (node a o m r)
    old x (inl h) k = inl h
    old x (inr (inl h)) k = inr (inl (rem.old x h k))
    old x (inr (inr h)) k = inr (inr h)

    only : (x : Entry) → In x (node a o m r) → In x (node a o l r)
    only x (inl h) = inl h
    only x (inr (inl h)) = inr (inl (rem.only x h))
    only x (inr (inr h)) = inr (inr h)

    gone : (x : Entry) → In x (node a o m r) → x.place ≢ p
    gone x (inl h) k = ne (sym (ap (λ (y : Entry). y.place) h) ∙ k)
    gone x (inr (inl h)) k = rem.gone x h k
    gone x (inr (inr h)) k = let b = fits_in mid hi r x fit h in omega arith

removed_right : (a p : ℕ) (o : Entry) (l r m : Tree) (lo : ℕ) (mid : ℕ) → o.place ≢ p → mid ≤ p → Fits lo mid l → Removed p r m → Removed p (node a o l r) (node a o l m)
removed_right a p o l r m lo mid ne le fit rem = record { old = old; only = only; gone = gone }
  where
    old : (x : Entry) → In x (node a o l r) → x.place ≢ p → In x (node a o l m)
    old x (inl h) k = inl h
    old x (inr (inl h)) k = inr (inl h)
    old x (inr (inr h)) k = inr (inr (rem.old x h k))

    only : (x : Entry) → In x (node a o l m) → In x (node a o l r)
    only x (inl h) = inl h
    only x (inr (inl h)) = inr (inl h)
    only x (inr (inr h)) = inr (inr (rem.only x h))

    gone : (x : Entry) → In x (node a o l m) → x.place ≢ p
    gone x (inl h) k = ne (sym (ap (λ (y : Entry). y.place) h) ∙ k)
    gone x (inr (inl h)) k = let b = fits_in lo mid l x fit h in omega arith
    gone x (inr (inr h)) k = rem.gone x h k

-- the root's record is written over, once a half was cut
module _ {g : ℕ} {xs : List Record} {a lo hi : ℕ} {x : Node} {t : Tree} (k : Kids g xs a lo hi x t) (ys : List Record) (f : ℕ) (next : Option ℕ) (p q : ℕ) (n : Entry)
    (here : At xs a (Used x)) (len : length ys ≡ length xs) (low : lo ≤ n.place) (high : n.place < hi) (c : Option ℕ) (zs : List Record) where
  apart : (b : ℕ) → Own k.l b → Own k.r b → ⊥
  apart b = not_both g xs lo ((lo + hi) / 2) hi k.l k.r b k.left_shows.held k.right_shows.held k.left_shows.fits k.right_shows.fits

  left_a : Own k.l a → ⊥
  left_a = not_root g xs k.l a x k.left_shows.held here k.left_under

  right_a : Own k.r a → ⊥
  right_a = not_root g xs k.r a x k.right_shows.held here k.right_under

  pub cut_left : zs ≡ set ys a (Used (record { tree = g; entry = n; left = c; right = x.right })) → (sub : Cut g xs ys k.l c lo ((lo + hi) / 2) f next q) →
      Under n sub.u → Under n k.r → Removed p (node a x.entry k.l k.r) (node a n sub.u k.r) → Cut g xs zs t (Some a) lo hi f next p
  cut_left zs_is sub um ur rem = subst₂ (λ s vs. Cut g xs vs s (Some a) lo hi f next p) (sym k.is) (sym zs_is) all
    where
      y : Record
      y = Used (record { tree = g; entry = n; left = c; right = x.right })

      written : y ≡ Used (record { tree = g; entry = n; left = root sub.u; right = root k.r })
      written =
          let i = sub.shows.linked in
          let j = k.right_shows.linked in cc

      inside : a < length ys
      inside = omega (arith, here.0)

      fa : f ≢ a
      fa e = left_a (subst (λ b. Own k.l b) e sub.was)

      m_a : Own sub.u a → ⊥
      m_a o = left_a (sub.owned a o).0

      owned : (b : ℕ) → Own (node a n sub.u k.r) b → Own (node a x.entry k.l k.r) b × (b ≢ f)
      owned b (inl h) = (inl h, λ e. fa (sym e ∙ h))
      owned b (inr (inl h)) = (inr (inl (sub.owned b h).0), (sub.owned b h).1)
      owned b (inr (inr h)) = (inr (inr h), λ e. apart f sub.was (subst (λ z. Own k.r z) e h))

      all : Cut g xs (set ys a y) (node a x.entry k.l k.r) (Some a) lo hi f next p
      all = record {
        u = node a n sub.u k.r;
        shows = record {
          linked = refl;
          held = (
            (rw length-set inside, get_or-set_same ys a y (Free None) inside ∙ written),
            holds_set g ys sub.u a y m_a sub.shows.held,
            holds_set g ys k.r a y right_a (holds_same g xs ys k.r len (λ b o. sub.same b (λ i. apart b i o)) k.right_shows.held),
          );
          fits = (low, high, sub.shows.fits, k.right_shows.fits, um, ur);
        };
        removed = rem;
        owned = owned;
        was = inr (inl sub.was);
        free = (rw length-set sub.free.0, get_or-set_other ys a f y (Free None) fa ∙ sub.free.1);
        same = λ b no_own. get_or-set_other ys a b y (Free None) (λ e. no_own (inl e)) ∙ sub.same b (λ o. no_own (inr (inl o)));
      }

  pub cut_right : zs ≡ set ys a (Used (record { tree = g; entry = n; left = x.left; right = c })) → (sub : Cut g xs ys k.r c ((lo + hi) / 2) hi f next q) →
      Under n k.l → Under n sub.u → Removed p (node a x.entry k.l k.r) (node a n k.l sub.u) → Cut g xs zs t (Some a) lo hi f next p
  cut_right zs_is sub ul um rem = subst₂ (λ s vs. Cut g xs vs s (Some a) lo hi f next p) (sym k.is) (sym zs_is) all
    where
      y : Record
      y = Used (record { tree = g; entry = n; left = x.left; right = c })

      written : y ≡ Used (record { tree = g; entry = n; left = root k.l; right = root sub.u })
      written =
          let i = sub.shows.linked in
          let j = k.left_shows.linked in cc

      inside : a < length ys
      inside = omega (arith, here.0)

      fa : f ≢ a
      fa e = right_a (subst (λ b. Own k.r b) e sub.was)

      m_a : Own sub.u a → ⊥
      m_a o = right_a (sub.owned a o).0

      owned : (b : ℕ) → Own (node a n k.l sub.u) b → Own (node a x.entry k.l k.r) b × (b ≢ f)
      owned b (inl h) = (inl h, λ e. fa (sym e ∙ h))
      owned b (inr (inl h)) = (inr (inl h), λ e. apart f (subst (λ z. Own k.l z) e h) sub.was)
      owned b (inr (inr h)) = (inr (inr (sub.owned b h).0), (sub.owned b h).1)

      all : Cut g xs (set ys a y) (node a x.entry k.l k.r) (Some a) lo hi f next p
      all = record {
        u = node a n k.l sub.u;
        shows = record {
          linked = refl;
          held = (
            (rw length-set inside, get_or-set_same ys a y (Free None) inside ∙ written),
            holds_set g ys k.l a y left_a (holds_same g xs ys k.l len (λ b o. sub.same b (λ i. apart b o i)) k.left_shows.held),
            holds_set g ys sub.u a y m_a sub.shows.held,
          );
          fits = (low, high, k.left_shows.fits, sub.shows.fits, ul, um);
        };
        removed = rem;
        owned = owned;
        was = inr (inr sub.was);
        free = (rw length-set sub.free.0, get_or-set_other ys a f y (Free None) fa ∙ sub.free.1);
        same = λ b no_own. get_or-set_other ys a b y (Free None) (λ e. no_own (inl e)) ∙ sub.same b (λ o. no_own (inr (inr o)));
      }

-- the two ways of `pull` that have a half
module _ {g : ℕ} {xs : List Record} {a lo hi : ℕ} {x : Node} {t : Tree} (k : Kids g xs a lo hi x t) (ys : List Record) (f : ℕ) (next : Option ℕ) (e n : Entry)
    (here : At xs a (Used x)) (len : length ys ≡ length xs) (top : Top e t) (c : Option ℕ) (zs : List Record) where
  root_is : x.entry.place ≡ e.place
  root_is = let h : Top e (node a x.entry k.l k.r) = subst (λ u. Top e u) k.is top in sym (ap (λ (y : Entry). y.place) h)

  pub pull_left : zs ≡ set ys a (Used (record { tree = g; entry = n; left = c; right = x.right })) → Top n k.l → Under n k.r → Cut g xs ys k.l c lo ((lo + hi) / 2) f next n.place → Cut g xs zs t (Some a) lo hi f next e.place
  pull_left zs_is nl nr sub =
      let b = fits_in lo ((lo + hi) / 2) k.l n k.left_shows.fits (top_in n k.l nl) in
      let rem = pulled_left a x.entry n k.l k.r sub.u lo ((lo + hi) / 2) k.left_under k.right_under k.left_shows.fits nl sub.removed in
      let all = cut_left k ys f next x.entry.place n.place n here len (omega arith) (omega (arith, k.low, k.high)) c zs zs_is sub (top_under n k.l sub.u lo ((lo + hi) / 2) k.left_shows.fits nl sub.removed) nr rem in
      subst (λ p. Cut g xs zs t (Some a) lo hi f next p) root_is all

  pub pull_right : zs ≡ set ys a (Used (record { tree = g; entry = n; left = x.left; right = c })) → Top n k.r → Under n k.l → Cut g xs ys k.r c ((lo + hi) / 2) hi f next n.place → Cut g xs zs t (Some a) lo hi f next e.place
  pull_right zs_is nr nl sub =
      let b = fits_in ((lo + hi) / 2) hi k.r n k.right_shows.fits (top_in n k.r nr) in
      let rem = pulled_right a x.entry n k.l k.r sub.u ((lo + hi) / 2) hi k.left_under k.right_under k.right_shows.fits nr sub.removed in
      let all = cut_right k ys f next x.entry.place n.place n here len (omega (arith, k.low, k.high)) (omega arith) c zs zs_is sub nl (top_under n k.r sub.u ((lo + hi) / 2) hi k.right_shows.fits nr sub.removed) rem in
      subst (λ p. Cut g xs zs t (Some a) lo hi f next p) root_is all

-- the two ways of `remove` that go down
module _ {g : ℕ} {xs : List Record} {a lo hi : ℕ} {x : Node} {t : Tree} (k : Kids g xs a lo hi x t) (ys : List Record) (f : ℕ) (next : Option ℕ) (p : ℕ)
    (here : At xs a (Used x)) (len : length ys ≡ length xs) (ne : x.entry.place ≢ p) (c : Option ℕ) (zs : List Record) where
  pub remove_left : zs ≡ set ys a (Used (record { tree = g; entry = x.entry; left = c; right = x.right })) → p < (lo + hi) / 2 → Cut g xs ys k.l c lo ((lo + hi) / 2) f next p → Cut g xs zs t (Some a) lo hi f next p
  remove_left zs_is lt sub =
      cut_left k ys f next p p x.entry here len k.low k.high c zs zs_is sub (less_under x.entry k.l sub.u p k.left_under sub.removed) k.right_under
      (removed_left a p x.entry k.l k.r sub.u hi ((lo + hi) / 2) ne lt k.right_shows.fits sub.removed)

  pub remove_right : zs ≡ set ys a (Used (record { tree = g; entry = x.entry; left = x.left; right = c })) → (lo + hi) / 2 ≤ p → Cut g xs ys k.r c ((lo + hi) / 2) hi f next p → Cut g xs zs t (Some a) lo hi f next p
  remove_right zs_is le sub =
      cut_right k ys f next p p x.entry here len k.low k.high c zs zs_is sub k.left_under (less_under x.entry k.r sub.u p k.right_under sub.removed)
      (removed_right a p x.entry k.l k.r sub.u lo ((lo + hi) / 2) ne le k.left_shows.fits sub.removed)
