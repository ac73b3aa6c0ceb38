-- What `insert` leaves, by the way it took.
use Rattle.std.proofs.Common.{◌≡◌, ℕ, ◌+◌, ◌/◌, ◌<◌, ◌≤◌, ◌≢◌, ◌⊎◌, List, length, set, Some, None, Option, sym, refl, ap, ◌∙◌, subst, subst₂, inl, inr, arith, length-set}
use Rattle.std.proofs.lemmas.List.{get_or-set_same, get_or-set_other}
use Rattle.sparse.specs.declared.record.Entry.{Entry}
use Rattle.sparse.specs.declared.record.Node.{Node}
use Rattle.sparse.specs.declared.record.Record.{Record}
use Rattle.sparse.specs.declared.record.Record.TheVariants.{Free, Used}
use Rattle.sparse.specs.Trees.{Tree, leaf, node, root, At, Holds, Own, In, Above, Under, Shows, Lacks, Added, Same, Inserted}
use Rattle.sparse.proofs.Kids.{Kids, under_in, under_all}
use Rattle.sparse.proofs.Apart.{not_free, not_root, not_both, holds_same, holds_set}

-- what `rank` answers of the new entry e and the old one o
abbrev pub Both : Entry → Entry → Entry → Entry → Type 0
Both e o up down = ((up ≡ e) × (down ≡ o)) ⊎ ((up ≡ o) × (down ≡ e))

-- the tree of one record
pub first : (g : ℕ) (xs : List Record) (t : Tree) (link : Option ℕ) (lo hi f : ℕ) (e : Entry) → link ≡ None → f < length xs → lo ≤ e.place → e.place < hi → Shows g xs link lo hi t →
    Inserted g xs (set xs f (Used (record { tree = g; entry = e; left = None; right = None }))) t f lo hi f e
first g xs (node a o l r) link lo hi f e no_link inside low high s = let k = s.linked in let z : ◌≡◌ {A = ℕ} 0 1 = cc in absurd (omega arith)
first g xs leaf link lo hi f e no_link inside low high s =
    record {
      u = node f e leaf leaf;
      shows = record { linked = refl; held = ((rw length-set inside, get_or-set_same xs f (Used (record { tree = g; entry = e; left = None; right = None })) (Free None) inside), tt, tt); fits = (low, high, tt, tt, tt, tt) };
      added = record { old = λ x h. elim h [ ]; new = inl refl; only = only };
      owned = owned;
      same = λ b ne o. get_or-set_other xs f b (Used (record { tree = g; entry = e; left = None; right = None })) (Free None) ne;
    }
  where
    only : (x : Entry) → In x (node f e leaf leaf) → (x ≡ e) ⊎ In x leaf
    only x (inl h) = inl h
    only x (inr (inl h)) = elim h [ ]
    only x (inr (inr h)) = elim h [ ]

    owned : (b : ℕ) → Own (node f e leaf leaf) b → (b ≡ f) ⊎ Own leaf b
    owned b (inl h) = inl h
    owned b (inr (inl h)) = elim h [ ]
    owned b (inr (inr h)) = elim h [ ]

-- the upper entry stands above all that the old one stood above
up_under : (e o up down : Entry) (t : Tree) → Above up down → Both e o up down → Under o t → Lacks e.place t → Under up t
up_under e o up down t above (inr b) u no_e = subst (λ y. Under y t) (sym b.0) u
up_under e o up down t above (inl b) u no_e = under_all up t all
  where
    all : (x : Entry) → In x t → Above up x
    all x h =
        let p = under_in o t x u h in
        let ne = no_e x h in
        let ep : up.place ≡ e.place = ap (λ (n : Entry). n.place) b.0 in
        let ev : up.value ≡ e.value = ap (λ (n : Entry). n.value) b.0 in
        let op : down.place ≡ o.place = ap (λ (n : Entry). n.place) b.1 in
        let ov : down.value ≡ o.value = ap (λ (n : Entry). n.value) b.1 in
        omega arith

-- no entry of a half is at the place of the lower one
pub down_lacks : (e o up down : Entry) (t : Tree) → Both e o up down → Under o t → Lacks e.place t → Lacks down.place t
down_lacks e o up down t (inl b) u no_e x h k = (under_in o t x u h).2 (k ∙ ap (λ (n : Entry). n.place) b.1)
down_lacks e o up down t (inr b) u no_e x h k = no_e x h (k ∙ ap (λ (n : Entry). n.place) b.1)

-- where each of the two stands
pub bounds : (lo hi : ℕ) (e o up down : Entry) → Both e o up down → lo ≤ e.place → e.place < hi → lo ≤ o.place → o.place < hi → (lo ≤ up.place) × (up.place < hi) × (lo ≤ down.place) × (down.place < hi)
bounds lo hi e o up down (inl b) p q r s =
    let x : up.place ≡ e.place = ap (λ (n : Entry). n.place) b.0 in
    let y : down.place ≡ o.place = ap (λ (n : Entry). n.place) b.1 in omega arith
bounds lo hi e o up down (inr b) p q r s =
    let x : up.place ≡ o.place = ap (λ (n : Entry). n.place) b.0 in
    let y : down.place ≡ e.place = ap (λ (n : Entry). n.place) b.1 in omega arith

-- the lower entry goes under the upper one
under_added : (up down : Entry) (t u : Tree) → Above up down → Under up t → Added down t u → Under up u
under_added up down t u above un add = under_all up u (λ x h. all x (add.only x h))
  where
    all : (x : Entry) → ((x ≡ down) ⊎ In x t) → Above up x
    all x (inl h) = subst (λ y. Above up y) (sym h) above
    all x (inr h) = under_in up t x un h

added_left : (a : ℕ) (e o up down : Entry) (l r m : Tree) → Both e o up down → Added down l m → Added e (node a o l r) (node a up m r)
added_left a e o up down l r m both add = record { old = old both; new = new both; only = only both }
  where
    old : Both e o up down → (x : Entry) → In x (node a o l r) → In x (node a up m r)
    old (inl b) x (inl h) = inr (inl (subst (λ y. In y m) (b.1 ∙ sym h) add.new))
    old (inr b) x (inl h) = inl (h ∙ sym b.0)
    old b x (inr (inl h)) = inr (inl (add.old x h))
    old b x (inr (inr h)) = inr (inr h)

    new : Both e o up down → In e (node a up m r)
    new (inl b) = inl (sym b.0)
    new (inr b) = inr (inl (subst (λ y. In y m) b.1 add.new))

    lower : Both e o up down → (x : Entry) → ((x ≡ down) ⊎ In x l) → (x ≡ e) ⊎ In x (node a o l r)
    lower (inl b) x (inl h) = inr (inl (h ∙ b.1))
    lower (inr b) x (inl h) = inl (h ∙ b.1)
    lower b x (inr h) = inr (inr (inl h))

    only : Both e o up down → (x : Entry) → In x (node a up m r) → (x ≡ e) ⊎ In x (node a o l r)
    only (inl b) x (inl h) = inl (h ∙ b.0)
    only (inr b) x (inl h) = inr (inl (h ∙ b.0))
    only b x (inr (inl h)) = lower b x (add.only x h)
    only b x (inr (inr h)) = inr (inr (inr h))

added_right : (a : ℕ) (e o up down : Entry) (l r m : Tree) → Both e o up down → Added down r m → Added e (node a o l r) (node a up l m)
added_right a e o up down l r m both add = record { old = old both; new = new both; only = only both }
  where
    old : Both e o up down → (x : Entry) → In x (node a o l r) → In x (node a up l m)
    old (inl b) x (inl h) = inr (inr (subst (λ y. In y m) (b.1 ∙ sym h) add.new))
    old (inr b) x (inl h) = inl (h ∙ sym b.0)
    old b x (inr (inl h)) = inr (inl h)
    old b x (inr (inr h)) = inr (inr (add.old x h))

    new : Both e o up down → In e (node a up l m)
    new (inl b) = inl (sym b.0)
    new (inr b) = inr (inr (subst (λ y. In y m) b.1 add.new))

    lower : Both e o up down → (x : Entry) → ((x ≡ down) ⊎ In x r) → (x ≡ e) ⊎ In x (node a o l r)
    lower (inl b) x (inl h) = inr (inl (h ∙ b.1))
    lower (inr b) x (inl h) = inl (h ∙ b.1)
    lower b x (inr h) = inr (inr (inr h))

    only : Both e o up down → (x : Entry) → In x (node a up l m) → (x ≡ e) ⊎ In x (node a o l r)
    only (inl b) x (inl h) = inl (h ∙ b.0)
    only (inr b) x (inl h) = inr (inl (h ∙ b.0))
    only b x (inr (inl h)) = inr (inr (inl h))
    only b x (inr (inr h)) = lower b x (add.only x h)

module _ (g : ℕ) (xs ys : List Record) (a lo hi f : ℕ) (e : Entry) (x : Node) (up down : Entry) (l r : Tree)
    (here : At xs a (Used x)) (free : (n : Option ℕ) × At xs f (Free n)) (len : length ys ≡ length xs)
    (above : Above up down) (both : Both e x.entry up down)
    (e_low : lo ≤ e.place) (e_high : e.place < hi) (o_low : lo ≤ x.entry.place) (o_high : x.entry.place < hi)
    (ls : Shows g xs x.left lo ((lo + hi) / 2) l) (rs : Shows g xs x.right ((lo + hi) / 2) hi r)
    (lu : Under x.entry l) (ru : Under x.entry r) (no_l : Lacks e.place l) (no_r : Lacks e.place r) where
  a_not_f : a ≢ f
  a_not_f af =
      let p = here.1 in
      let q = free.1.1 in
      let z : ◌≡◌ {A = ℕ} 0 1 = cc in omega arith

  left_a : Own l a → ⊥
  left_a = not_root g xs l a x ls.held here lu

  right_a : Own r a → ⊥
  right_a = not_root g xs r a x rs.held here ru

  -- the half that is left alone stands in what the other half's `insert` leaves, and in what is written after
  others : (t : Tree) (c lo' hi' : ℕ) (s : Tree) (y : Record) → Holds g xs t → (Own t a → ⊥) → ((b : ℕ) → Own t b → Own s b → ⊥) → Same xs ys s f → Holds g (set ys a y) t
  others t c lo' hi' s y h no_a no_s same =
      holds_set g ys t a y no_a (holds_same g xs ys t len (λ b o. same b (λ bf. not_free g xs t f free.0 h free.1 (subst (λ n. Own t n) bf o)) (no_s b o)) h)

  pub grown_left : (c : ℕ) → Inserted g xs ys l c lo ((lo + hi) / 2) f down →
      Inserted g xs (set ys a (Used (record { tree = g; entry = up; left = Some c; right = x.right }))) (node a x.entry l r) a lo hi f e
  grown_left c ins =
      let y : Record = Used (record { tree = g; entry = up; left = Some c; right = x.right }) in
      let bs = bounds lo hi e x.entry up down both e_low e_high o_low o_high in
      let inside : a < length ys = omega (arith, here.0) in
      let m = ins.u in
      let up_l = up_under e x.entry up down l above both lu no_l in
      record {
        u = node a up m r;
        shows = record {
          linked = refl;
          held = (
            (rw length-set inside, get_or-set_same ys a y (Free None) inside ∙ written),
            holds_set g ys m a y m_a ins.shows.held,
            others r c lo hi l y rs.held right_a (λ b p q. not_both g xs lo ((lo + hi) / 2) hi l r b ls.held rs.held ls.fits rs.fits q p) ins.same,
          );
          fits = (bs.0, bs.1, ins.shows.fits, rs.fits, under_added up down l m above up_l ins.added, up_under e x.entry up down r above both ru no_r);
        };
        added = added_left a e x.entry up down l r m both ins.added;
        owned = owned;
        same = λ b bf no_own. get_or-set_other ys a b y (Free None) (λ ba. no_own (inl ba)) ∙ ins.same b bf (λ o. no_own (inr (inl o)));
      }
    where
      written : ◌≡◌ {A = Record} (Used (record { tree = g; entry = up; left = Some c; right = x.right })) (Used (record { tree = g; entry = up; left = root ins.u; right = root r }))
      written =
          let p = ins.shows.linked in
          let q = rs.linked in cc

      m_a : Own ins.u a → ⊥
      m_a o = elim (ins.owned a o) [ inl af ↦ a_not_f af | inr o' ↦ left_a o' ]

      lower : (b : ℕ) → ((b ≡ f) ⊎ Own l b) → (b ≡ f) ⊎ Own (node a x.entry l r) b
      lower b (inl h) = inl h
      lower b (inr h) = inr (inr (inl h))

      owned : (b : ℕ) → Own (node a up ins.u r) b → (b ≡ f) ⊎ Own (node a x.entry l r) b
      owned b (inl h) = inr (inl h)
      owned b (inr (inl h)) = lower b (ins.owned b h)
      owned b (inr (inr h)) = inr (inr (inr h))

  pub grown_right : (c : ℕ) → Inserted g xs ys r c ((lo + hi) / 2) hi f down →
      Inserted g xs (set ys a (Used (record { tree = g; entry = up; left = x.left; right = Some c }))) (node a x.entry l r) a lo hi f e
  grown_right c ins =
      let y : Record = Used (record { tree = g; entry = up; left = x.left; right = Some c }) in
      let bs = bounds lo hi e x.entry up down both e_low e_high o_low o_high in
      let inside : a < length ys = omega (arith, here.0) in
      let m = ins.u in
      let up_r = up_under e x.entry up down r above both ru no_r in
      record {
        u = node a up l m;
        shows = record {
          linked = refl;
          held = (
            (rw length-set inside, get_or-set_same ys a y (Free None) inside ∙ written),
            others l c lo hi r y ls.held left_a (λ b p q. not_both g xs lo ((lo + hi) / 2) hi l r b ls.held rs.held ls.fits rs.fits p q) ins.same,
            holds_set g ys m a y m_a ins.shows.held,
          );
          fits = (bs.0, bs.1, ls.fits, ins.shows.fits, up_under e x.entry up down l above both lu no_l, under_added up down r m above up_r ins.added);
        };
        added = added_right a e x.entry up down l r m both ins.added;
        owned = owned;
        same = λ b bf no_own. get_or-set_other ys a b y (Free None) (λ ba. no_own (inl ba)) ∙ ins.same b bf (λ o. no_own (inr (inr o)));
      }
    where
      written : ◌≡◌ {A = Record} (Used (record { tree = g; entry = up; left = x.left; right = Some c })) (Used (record { tree = g; entry = up; left = root l; right = root ins.u }))
      written =
          let p = ins.shows.linked in
          let q = ls.linked in cc

      m_a : Own ins.u a → ⊥
      m_a o = elim (ins.owned a o) [ inl af ↦ a_not_f af | inr o' ↦ right_a o' ]

      lower : (b : ℕ) → ((b ≡ f) ⊎ Own r b) → (b ≡ f) ⊎ Own (node a x.entry l r) b
      lower b (inl h) = inl h
      lower b (inr h) = inr (inr (inr h))

      owned : (b : ℕ) → Own (node a up l ins.u) b → (b ≡ f) ⊎ Own (node a x.entry l r) b
      owned b (inl h) = inr (inl h)
      owned b (inr (inl h)) = inr (inr (inl h))
      owned b (inr (inr h)) = lower b (ins.owned b h)

pub lacks_kids : (p a : ℕ) (e : Entry) (l r t : Tree) → t ≡ node a e l r → Lacks p t → (e.place ≢ p) × Lacks p l × Lacks p r
lacks_kids p a e l r t is lack =
    let here : Lacks p (node a e l r) = subst (λ u. Lacks p u) is lack in
    (here e (inl refl), (λ x h. here x (inr (inl h))), (λ x h. here x (inr (inr h))))

module _ {g : ℕ} {xs : List Record} {a lo hi : ℕ} {x : Node} {t : Tree} (k : Kids g xs a lo hi x t) (ys : List Record) (f : ℕ) (e up down : Entry)
    (here : At xs a (Used x)) (free : (n : Option ℕ) × At xs f (Free n)) (len : length ys ≡ length xs)
    (above : Above up down) (both : Both e x.entry up down) (e_low : lo ≤ e.place) (e_high : e.place < hi) (lack : Lacks e.place t) where
  pub insert_left : (c : ℕ) (zs : List Record) → zs ≡ set ys a (Used (record { tree = g; entry = up; left = Some c; right = x.right })) →
      (Shows g xs x.left lo ((lo + hi) / 2) k.l → Lacks down.place k.l → Inserted g xs ys k.l c lo ((lo + hi) / 2) f down) → Inserted g xs zs t a lo hi f e
  insert_left c zs zs_is ins =
      let no_e = lacks_kids e.place a x.entry k.l k.r t k.is lack in
      let sub = ins k.left_shows (down_lacks e x.entry up down k.l both k.left_under no_e.1) in
      let all = grown_left g xs ys a lo hi f e x up down k.l k.r here free len above both e_low e_high k.low k.high k.left_shows k.right_shows k.left_under k.right_under no_e.1 no_e.2 c sub in
      subst₂ (λ u vs. Inserted g xs vs u a lo hi f e) (sym k.is) (sym zs_is) all

  pub insert_right : (c : ℕ) (zs : List Record) → zs ≡ set ys a (Used (record { tree = g; entry = up; left = x.left; right = Some c })) →
      (Shows g xs x.right ((lo + hi) / 2) hi k.r → Lacks down.place k.r → Inserted g xs ys k.r c ((lo + hi) / 2) hi f down) → Inserted g xs zs t a lo hi f e
  insert_right c zs zs_is ins =
      let no_e = lacks_kids e.place a x.entry k.l k.r t k.is lack in
      let sub = ins k.right_shows (down_lacks e x.entry up down k.r both k.right_under no_e.2) in
      let all = grown_right g xs ys a lo hi f e x up down k.l k.r here free len above both e_low e_high k.low k.high k.left_shows k.right_shows k.left_under k.right_under no_e.1 no_e.2 c sub in
      subst₂ (λ u vs. Inserted g xs vs u a lo hi f e) (sym k.is) (sym zs_is) all
