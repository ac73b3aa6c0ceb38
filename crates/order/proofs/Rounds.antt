-- What a round does to a row: it loses nothing, takes every edge, and holds only what is reached. For either way of looking.
use Rattle.std.proofs.Common.{◌≡◌, ℕ, zero, suc, ◌<◌, ◌≤◌, Bool, true, false, cond, eqb, length, get_or, Some, None, Option, sym, refl, ◌∙◌, subst, arith, length-set, get_or-set_other, get_or-set_same, eq-eqb, ne_eqb, eqb-true}
use native.Mathlib.Decide.{dec_lt, ℕ_discrete}
use Rattle.std.proofs.lemmas.List.{same_lists, get_or_default}
use borrow.Author.Tests.{eqb-false}
use Rattle.order.specs.Rounds.{Table, Pick, Row, entry, via, relaxed, pulled, swept, Begins, rounds}

-- the entry is a place that comes no later than j
abbrev pub Within : (ℕ → ℕ → Type 0) → Option ℕ → ℕ → Type 0
Within Le None j = ⊥
Within Le (Some p) j = Le p j

-- the entry is none, or G holds of its place
abbrev pub Of : Option ℕ → (ℕ → Type 0) → Type 0
Of None G = Unit {0}
Of (Some p) G = G p

-- what is asked of the rows, one after each round, for them to settle: `Reach q p` where q.p is reached from s.i, and `Hop r a q b` where one edge leads from r.a to q.b
pub record Progress (Le : ℕ → ℕ → Type 0) (k : ℕ) (Reach : ℕ → ℕ → Type 0) (Hop : ℕ → ℕ → ℕ → ℕ → Type 0) (s i : ℕ) (row : ℕ → ℕ → Option ℕ) : Type 0 where
  pub here : (m : ℕ) → Within Le (row m s) i
  pub reached : (m q : ℕ) → q < k → Of (row m q) (Reach q)
  pub begins : (q a b : ℕ) → q < k → (q ≡ s → ⊥) → Le i a → Hop s a q b → Within Le (row 0 q) b
  pub takes : (m q r a b : ℕ) → q < k → (q ≡ s → ⊥) → r < k → (r ≡ q → ⊥) → Within Le (row m r) a → Hop r a q b → Within Le (row (suc m) q) b

-- the lengths, and what a round does not touch

module _ (pick : Pick) (f : Table) where
  length_pulled : (xs : Row) (q m : ℕ) → length (pulled pick f xs q m) ≡ length xs
  length_pulled xs q zero = refl
  length_pulled xs q (suc m) = go (eqb m q) (length_pulled xs q m)
    where
      go : (b : Bool) → length (pulled pick f xs q m) ≡ length xs → length (cond b (pulled pick f xs q m) (relaxed pick f (pulled pick f xs q m) q m)) ≡ length xs
      go true e = e
      go false e = length-set (pulled pick f xs q m) q _ ∙ e

  pulled_other : (xs : Row) (q m x : ℕ) → (x ≡ q → ⊥) → (d : Option ℕ) → get_or (pulled pick f xs q m) x d ≡ get_or xs x d
  pulled_other xs q zero x ne d = refl
  pulled_other xs q (suc m) x ne d = go (eqb m q) (pulled_other xs q m x ne d)
    where
      go : (b : Bool) → get_or (pulled pick f xs q m) x d ≡ get_or xs x d → get_or (cond b (pulled pick f xs q m) (relaxed pick f (pulled pick f xs q m) q m)) x d ≡ get_or xs x d
      go true e = e
      go false e = get_or-set_other (pulled pick f xs q m) q x _ d ne ∙ e

  module _ (k s : ℕ) where
    pub length_swept : (xs : Row) (m : ℕ) → length (swept pick f k s xs m) ≡ length xs
    length_swept xs zero = refl
    length_swept xs (suc m) = go (eqb m s) (length_swept xs m)
      where
        go : (b : Bool) → length (swept pick f k s xs m) ≡ length xs → length (cond b (swept pick f k s xs m) (pulled pick f (swept pick f k s xs m) m k)) ≡ length xs
        go true e = e
        go false e = length_pulled (swept pick f k s xs m) m k ∙ e

    swept_beyond : (xs : Row) (m x : ℕ) → m ≤ x → (d : Option ℕ) → get_or (swept pick f k s xs m) x d ≡ get_or xs x d
    swept_beyond xs zero x l d = refl
    swept_beyond xs (suc m) x l d = go (eqb m s) (swept_beyond xs m x (omega arith) d)
      where
        go : (b : Bool) → get_or (swept pick f k s xs m) x d ≡ get_or xs x d → get_or (cond b (swept pick f k s xs m) (pulled pick f (swept pick f k s xs m) m k)) x d ≡ get_or xs x d
        go true e = e
        go false e = pulled_other (swept pick f k s xs m) m k x (λ g. omega arith) d ∙ e

    pub length_rounds : (xs : Row) (m : ℕ) → length (rounds pick f k s xs m) ≡ length xs
    length_rounds xs zero = refl
    length_rounds xs (suc m) = length_swept (rounds pick f k s xs m) k ∙ length_rounds xs m

    -- a round that changes none of the k entries changes nothing
    pub same_rows : (xs : Row) → ((q : ℕ) → q < k → entry (swept pick f k s xs k) q ≡ entry xs q) → swept pick f k s xs k ≡ xs
    same_rows xs h = same_lists (swept pick f k s xs k) xs (length_swept xs k) at_each
      where
        at_each : (x : ℕ) (d : Option ℕ) → x < length (swept pick f k s xs k) → get_or (swept pick f k s xs k) x d ≡ get_or xs x d
        at_each x d lx =
            elim (dec_lt x k) [
              | yes lk ↦ get_or_default (swept pick f k s xs k) x d None lx ∙ h x lk ∙ get_or_default xs x None d (omega (arith, length_swept xs k))
              | no lk ↦ swept_beyond xs k x (omega arith) d
            ]

module _
    (Le : ℕ → ℕ → Type 0) (pick : Pick)
    (pick_left : (a b : Option ℕ) (j : ℕ) → Within Le a j → Within Le (pick a b) j)
    (pick_right : (a b : Option ℕ) (j : ℕ) → Within Le b j → Within Le (pick a b) j)
    (pick_of : (G : ℕ → Type 0) (a b : Option ℕ) → Of a G → Of b G → Of (pick a b) G)
    (k : ℕ) (Reach : ℕ → ℕ → Type 0) (Hop : ℕ → ℕ → ℕ → ℕ → Type 0) (f : Table)
    (f_takes : (r q p a b : ℕ) → r < k → q < k → (r ≡ q → ⊥) → Reach r p → Le p a → Hop r a q b → Within Le (f r q p) b)
    (f_of : (r q p : ℕ) → r < k → q < k → (r ≡ q → ⊥) → Reach r p → Of (f r q p) (Reach q))
    (s i : ℕ)
  where
    abbrev Reached : Row → Type 0
    Reached xs = (q : ℕ) → q < k → Of (entry xs q) (Reach q)

    via_takes : (r q a b : ℕ) → r < k → q < k → (r ≡ q → ⊥) → (o : Option ℕ) → Of o (Reach r) → Within Le o a → Hop r a q b → Within Le (via (f r q) o) b
    via_takes r q a b lr lq ne None g h w = absurd h
    via_takes r q a b lr lq ne (Some p) g h w = f_takes r q p a b lr lq ne g h w

    via_of : (r q : ℕ) → r < k → q < k → (r ≡ q → ⊥) → (o : Option ℕ) → Of o (Reach r) → Of (via (f r q) o) (Reach q)
    via_of r q lr lq ne None g = tt
    via_of r q lr lq ne (Some p) g = f_of r q p lr lq ne g

    -- one look, and the looks for one shuttle

    relaxed_keeps : (xs : Row) (q r x j : ℕ) → q < length xs → Within Le (entry xs x) j → Within Le (entry (relaxed pick f xs q r) x) j
    relaxed_keeps xs q r x j l h =
        elim (ℕ_discrete x q) [
          | yes e ↦ subst (λ y. Within Le (entry (relaxed pick f xs q r) y) j) (sym e) (rw (get_or-set_same xs q (pick (entry xs q) (via (f r q) (entry xs r))) None l) (pick_left (entry xs q) _ j (subst (λ y. Within Le (entry xs y) j) e h)))
          | no e ↦ rw (get_or-set_other xs q x (pick (entry xs q) (via (f r q) (entry xs r))) None e) h
        ]

    relaxed_takes : (xs : Row) (q r j : ℕ) → q < length xs → Within Le (via (f r q) (entry xs r)) j → Within Le (entry (relaxed pick f xs q r) q) j
    relaxed_takes xs q r j l h = rw (get_or-set_same xs q (pick (entry xs q) (via (f r q) (entry xs r))) None l) (pick_right (entry xs q) _ j h)

    relaxed_of : (xs : Row) (q r : ℕ) → q < length xs → q < k → r < k → (r ≡ q → ⊥) → Reached xs → Reached (relaxed pick f xs q r)
    relaxed_of xs q r l lq lr ne g x lx =
        elim (ℕ_discrete x q) [
          | yes e ↦ subst (λ y. Of (entry (relaxed pick f xs q r) y) (Reach y)) (sym e) (rw (get_or-set_same xs q (pick (entry xs q) (via (f r q) (entry xs r))) None l) (pick_of _ (entry xs q) _ (g q lq) (via_of r q lr lq ne (entry xs r) (g r lr))))
          | no e ↦ rw (get_or-set_other xs q x (pick (entry xs q) (via (f r q) (entry xs r))) None e) (g x lx)
        ]

    pulled_keeps : (xs : Row) (q m x j : ℕ) → q < length xs → Within Le (entry xs x) j → Within Le (entry (pulled pick f xs q m) x) j
    pulled_keeps xs q zero x j l h = h
    pulled_keeps xs q (suc m) x j l h = go (eqb m q) (pulled_keeps xs q m x j l h)
      where
        go : (b : Bool) → Within Le (entry (pulled pick f xs q m) x) j → Within Le (entry (cond b (pulled pick f xs q m) (relaxed pick f (pulled pick f xs q m) q m)) x) j
        go true g = g
        go false g = relaxed_keeps (pulled pick f xs q m) q m x j (omega (arith, length_pulled pick f xs q m)) g

    pulled_of : (xs : Row) (q m : ℕ) → q < length xs → q < k → m ≤ k → Reached xs → Reached (pulled pick f xs q m)
    pulled_of xs q zero l lq lm g = g
    pulled_of xs q (suc m) l lq lm g = go (eqb m q) refl (pulled_of xs q m l lq (omega arith) g)
      where
        go : (b : Bool) → eqb m q ≡ b → Reached (pulled pick f xs q m) → Reached (cond b (pulled pick f xs q m) (relaxed pick f (pulled pick f xs q m) q m))
        go true e ih = ih
        go false e ih = relaxed_of (pulled pick f xs q m) q m (omega (arith, length_pulled pick f xs q m)) lq lm (eqb-false m q e) ih

    pulled_takes : (xs : Row) (q m r a b : ℕ) → q < length xs → q < k → m ≤ k → Reached xs → r < m → (r ≡ q → ⊥) → Within Le (entry xs r) a → Hop r a q b → Within Le (entry (pulled pick f xs q m) q) b
    pulled_takes xs q zero r a b l lq lm g lr ne h w = absurd (omega arith)
    pulled_takes xs q (suc m) r a b l lq lm g lr ne h w = go (eqb m q) refl (dec_lt r m) (λ l'. pulled_takes xs q m r a b l lq (omega arith) g l' ne h w)
      where
        ys : Row
        ys = pulled pick f xs q m

        lys : q < length ys
        lys = omega (arith, length_pulled pick f xs q m)

        go : (c : Bool) → eqb m q ≡ c → Dec (r < m) → (r < m → Within Le (entry ys q) b) → Within Le (entry (cond c ys (relaxed pick f ys q m)) q) b
        go true e (yes l') ih = ih l'
        go false e (yes l') ih = relaxed_keeps ys q m q b lys (ih l')
        go true e (no l') ih = absurd (ne (let e' : r ≡ m = omega arith in e' ∙ eqb-true m q e))
        go false e (no l') ih =
            let e' : r ≡ m = omega arith in
            relaxed_takes ys q m b lys
            (subst (λ t. Within Le (via (f t q) (entry ys t)) b) e'
            (via_takes r q a b (omega arith) lq ne (entry ys r) (pulled_of xs q m l lq (omega arith) g r (omega arith)) (pulled_keeps xs q m r a l h) w))

    -- a whole round

    swept_keeps : (xs : Row) (m x j : ℕ) → k ≤ length xs → m ≤ k → Within Le (entry xs x) j → Within Le (entry (swept pick f k s xs m) x) j
    swept_keeps xs zero x j l lm h = h
    swept_keeps xs (suc m) x j l lm h = go (eqb m s) (swept_keeps xs m x j l (omega arith) h)
      where
        go : (b : Bool) → Within Le (entry (swept pick f k s xs m) x) j → Within Le (entry (cond b (swept pick f k s xs m) (pulled pick f (swept pick f k s xs m) m k)) x) j
        go true g = g
        go false g = pulled_keeps (swept pick f k s xs m) m k x j (omega (arith, length_swept pick f k s xs m)) g

    swept_of : (xs : Row) (m : ℕ) → k ≤ length xs → m ≤ k → Reached xs → Reached (swept pick f k s xs m)
    swept_of xs zero l lm g = g
    swept_of xs (suc m) l lm g = go (eqb m s) (swept_of xs m l (omega arith) g)
      where
        go : (b : Bool) → Reached (swept pick f k s xs m) → Reached (cond b (swept pick f k s xs m) (pulled pick f (swept pick f k s xs m) m k))
        go true ih = ih
        go false ih = pulled_of (swept pick f k s xs m) m k (omega (arith, length_swept pick f k s xs m)) lm (omega arith) ih

    swept_takes : (xs : Row) (m q r a b : ℕ) → k ≤ length xs → m ≤ k → Reached xs → q < m → (q ≡ s → ⊥) → r < k → (r ≡ q → ⊥) → Within Le (entry xs r) a → Hop r a q b → Within Le (entry (swept pick f k s xs m) q) b
    swept_takes xs zero q r a b l lm g lq nq lr nr h w = absurd (omega arith)
    swept_takes xs (suc m) q r a b l lm g lq nq lr nr h w = go (eqb m s) refl (dec_lt q m) (λ l'. swept_takes xs m q r a b l (omega arith) g l' nq lr nr h w)
      where
        ys : Row
        ys = swept pick f k s xs m

        lys : m < length ys
        lys = omega (arith, length_swept pick f k s xs m)

        go : (c : Bool) → eqb m s ≡ c → Dec (q < m) → (q < m → Within Le (entry ys q) b) → Within Le (entry (cond c ys (pulled pick f ys m k)) q) b
        go true e (yes l') ih = ih l'
        go false e (yes l') ih = pulled_keeps ys m k q b lys (ih l')
        go true e (no l') ih = absurd (nq (let e' : q ≡ m = omega arith in e' ∙ eqb-true m s e))
        go false e (no l') ih =
            let e' : m ≡ q = omega arith in
            subst (λ x. Within Le (entry (pulled pick f ys m k) x) b) e'
            (pulled_takes ys m k r a b lys lm (omega arith) (swept_of xs m l (omega arith) g) lr (λ d. nr (d ∙ e')) (swept_keeps xs m r a l (omega arith) h) (subst (λ x. Hop r a x b) (sym e') w))

    -- the row after m rounds

    module _ (home : Reach s i) (low : s < k) (le_refl : Le i i) (xs : Row) (start : Begins f k s i xs) where
      long : (m : ℕ) → k ≤ length (rounds pick f k s xs m)
      long m = omega (arith, length_rounds pick f k s xs m, start.0)

      rounds_here : (m : ℕ) → Within Le (entry (rounds pick f k s xs m) s) i
      rounds_here zero = rw (start.1 s low, eq-eqb s s refl) le_refl
      rounds_here (suc m) = swept_keeps (rounds pick f k s xs m) k s i (long m) (omega arith) (rounds_here m)

      start_of : Reached xs
      start_of q lq = rw (start.1 q lq) (go (eqb q s) refl)
        where
          go : (b : Bool) → eqb q s ≡ b → Of (cond b (Some i) (f s q i)) (Reach q)
          go true e = subst (λ x. Reach x i) (sym (eqb-true q s e)) home
          go false e = f_of s q i low lq (λ d. eqb-false q s e (sym d)) home

      rounds_of : (m : ℕ) → Reached (rounds pick f k s xs m)
      rounds_of zero = start_of
      rounds_of (suc m) = swept_of (rounds pick f k s xs m) k (long m) (omega arith) (rounds_of m)

      pub progress : Progress Le k Reach Hop s i (λ m q. entry (rounds pick f k s xs m) q)
      progress = record {
        here = rounds_here;
        reached = rounds_of;
        begins = λ q a b lq nq l w. rw (start.1 q lq, ne_eqb q s nq) (f_takes s q i a b low lq (λ d. nq (sym d)) home l w);
        takes = λ m q r a b lq nq lr nr h w. swept_takes (rounds pick f k s xs m) k q r a b (long m) (omega arith) (rounds_of m) lq nq lr nr h w;
      }
