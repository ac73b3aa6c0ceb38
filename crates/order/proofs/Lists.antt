-- Lemmas on `In` and `Earlier`: in a list after a list, in what a test keeps, and in a list that has nothing twice.
use Rattle.std.proofs.Common.{◌≡◌, Bool, true, false, cond, not, ◌⊎◌, List, [], ◌∷◌, ◌++◌, filter, sym, refl, ap, ◌∙◌, subst, inl, inr}
use mathlib.Core.Bool.{false≢true}
use Rattle.order.specs.Lists.{In, Earlier, Reaches, there, onward, parted}

not_true : (b : Bool) → b ≡ true → not b ≡ true → ⊥
not_true true p q = false≢true q
not_true false p q = false≢true p

module _ {X : Type 0} where
  -- ends

  pub in_first : (l : List X) (x y : X) → Earlier l x y → In l x
  in_first [] x y e = e
  in_first (z ∷ l) x y (inl e) = inl e.0
  in_first (z ∷ l) x y (inr e) = inr (in_first l x y e)

  pub in_second : (l : List X) (x y : X) → Earlier l x y → In l y
  in_second [] x y e = e
  in_second (z ∷ l) x y (inl e) = inr e.1
  in_second (z ∷ l) x y (inr e) = inr (in_second l x y e)

  -- nothing twice

  pub once_more : (l : List X) (z : X) → (In l z → ⊥) → ((w : X) → Earlier l w w → ⊥) → (w : X) → Earlier (z ∷ l) w w → ⊥
  once_more l z new once w (inl e) = new (subst (In l) (sym e.0) e.1)
  once_more l z new once w (inr e) = once w e

  pub earlier_trans : (l : List X) (x y z : X) → ((w : X) → Earlier l w w → ⊥) → Earlier l x y → Earlier l y z → Earlier l x z
  earlier_trans [] x y z once e f = e
  earlier_trans (a ∷ l) x y z once (inl e) (inl f) = inl (e.0, f.1)
  earlier_trans (a ∷ l) x y z once (inl e) (inr f) = inl (e.0, in_second l y z f)
  earlier_trans (a ∷ l) x y z once (inr e) (inl f) = absurd (once y (inl (f.0, in_second l x y e)))
  earlier_trans (a ∷ l) x y z once (inr e) (inr f) = inr (earlier_trans l x y z (λ w g. once w (inr g)) e f)

  -- one list after the other

  pub in_left : (a b : List X) (x : X) → In a x → In (a ++ b) x
  in_left [] b x h = absurd h
  in_left (z ∷ a) b x (inl e) = inl e
  in_left (z ∷ a) b x (inr h) = inr (in_left a b x h)

  pub in_right : (a b : List X) (x : X) → In b x → In (a ++ b) x
  in_right [] b x h = h
  in_right (z ∷ a) b x h = inr (in_right a b x h)

  pub in_either : (a b : List X) (x : X) → In (a ++ b) x → In a x ⊎ In b x
  in_either [] b x h = inr h
  in_either (z ∷ a) b x (inl e) = inl (inl e)
  in_either (z ∷ a) b x (inr h) = elim (in_either a b x h) [ inl p ↦ inl (inr p) | inr q ↦ inr q ]

  pub earlier_left : (a b : List X) (x y : X) → Earlier a x y → Earlier (a ++ b) x y
  earlier_left [] b x y h = absurd h
  earlier_left (z ∷ a) b x y (inl e) = inl (e.0, in_left a b y e.1)
  earlier_left (z ∷ a) b x y (inr h) = inr (earlier_left a b x y h)

  pub earlier_right : (a b : List X) (x y : X) → Earlier b x y → Earlier (a ++ b) x y
  earlier_right [] b x y h = h
  earlier_right (z ∷ a) b x y h = inr (earlier_right a b x y h)

  pub earlier_across : (a b : List X) (x y : X) → In a x → In b y → Earlier (a ++ b) x y
  earlier_across [] b x y h k = absurd h
  earlier_across (z ∷ a) b x y (inl e) k = inl (e, in_right a b y k)
  earlier_across (z ∷ a) b x y (inr h) k = inr (earlier_across a b x y h k)

  -- where the two of them stand
  pub earlier_either : (a b : List X) (x y : X) → Earlier (a ++ b) x y → Earlier a x y ⊎ ((In a x × In b y) ⊎ Earlier b x y)
  earlier_either [] b x y h = inr (inr h)
  earlier_either (z ∷ a) b x y (inl e) = elim (in_either a b y e.1) [ inl p ↦ inl (inl (e.0, p)) | inr q ↦ inr (inl (inl e.0, q)) ]
  earlier_either (z ∷ a) b x y (inr h) = elim (earlier_either a b x y h) [ inl p ↦ inl (inr p) | inr q ↦ inr (elim q [ inl r ↦ inl (inr r.0, r.1) | inr r ↦ inr r ]) ]

  -- what a test keeps

  module _ (B : X → Bool) where
    pub in_kept : (l : List X) (x : X) → B x ≡ true → In l x → In (filter B l) x
    in_kept [] x t h = h
    in_kept (z ∷ l) x t (inl e) = go (B z) refl
      where
        go : (b : Bool) → B z ≡ b → In (cond b (z ∷ filter B l) (filter B l)) x
        go true p = inl e
        go false p = absurd (false≢true (sym p ∙ subst (λ w. B w ≡ true) (sym e) t))
    in_kept (z ∷ l) x t (inr h) = go (B z) (in_kept l x t h)
      where
        go : (b : Bool) → In (filter B l) x → In (cond b (z ∷ filter B l) (filter B l)) x
        go true p = inr p
        go false p = p

    pub in_of_kept : (l : List X) (x : X) → In (filter B l) x → In l x × (B x ≡ true)
    in_of_kept [] x h = absurd h
    in_of_kept (z ∷ l) x h = go (B z) refl (in_of_kept l x) h
      where
        go : (b : Bool) → B z ≡ b → (In (filter B l) x → In l x × (B x ≡ true)) → In (cond b (z ∷ filter B l) (filter B l)) x → In (z ∷ l) x × (B x ≡ true)
        go true p ih (inl e) = (inl e, subst (λ w. B w ≡ true) e p)
        go true p ih (inr h) = let r = ih h in (inr r.0, r.1)
        go false p ih h = let r = ih h in (inr r.0, r.1)

    pub earlier_kept : (l : List X) (x y : X) → B x ≡ true → B y ≡ true → Earlier l x y → Earlier (filter B l) x y
    earlier_kept [] x y s t h = h
    earlier_kept (z ∷ l) x y s t (inl e) = go (B z) refl
      where
        go : (b : Bool) → B z ≡ b → Earlier (cond b (z ∷ filter B l) (filter B l)) x y
        go true p = inl (e.0, in_kept l y t e.1)
        go false p = absurd (false≢true (sym p ∙ subst (λ w. B w ≡ true) (sym e.0) s))
    earlier_kept (z ∷ l) x y s t (inr h) = go (B z) (earlier_kept l x y s t h)
      where
        go : (b : Bool) → Earlier (filter B l) x y → Earlier (cond b (z ∷ filter B l) (filter B l)) x y
        go true p = inr p
        go false p = p

    pub earlier_of_kept : (l : List X) (x y : X) → Earlier (filter B l) x y → Earlier l x y
    earlier_of_kept [] x y h = h
    earlier_of_kept (z ∷ l) x y h = go (B z) (earlier_of_kept l x y) h
      where
        go : (b : Bool) → (Earlier (filter B l) x y → Earlier l x y) → Earlier (cond b (z ∷ filter B l) (filter B l)) x y → Earlier (z ∷ l) x y
        go true ih (inl e) = inl (e.0, (in_of_kept l y e.1).0)
        go true ih (inr h) = inr (ih h)
        go false ih h = inr (ih h)

    pub once_kept : (l : List X) → ((x : X) → Earlier l x x → ⊥) → (x : X) → Earlier (filter B l) x x → ⊥
    once_kept l once x h = once x (earlier_of_kept l x x h)

  -- what the test keeps, and then the rest

  module _ (B : X → Bool) where
    pub in_parted : (l : List X) (x : X) → In l x → In (parted B l) x
    in_parted l x h = go (B x) refl
      where
        go : (b : Bool) → B x ≡ b → In (parted B l) x
        go true p = in_left (filter B l) _ x (in_kept B l x p h)
        go false p = in_right (filter B l) _ x (in_kept (λ w. not (B w)) l x (ap not p) h)

    pub in_of_parted : (l : List X) (x : X) → In (parted B l) x → In l x
    in_of_parted l x h = elim (in_either (filter B l) _ x h) [ inl p ↦ (in_of_kept B l x p).0 | inr p ↦ (in_of_kept (λ w. not (B w)) l x p).0 ]

    pub once_parted : (l : List X) → ((x : X) → Earlier l x x → ⊥) → (x : X) → Earlier (parted B l) x x → ⊥
    once_parted l once x h = go (earlier_either (filter B l) (filter (λ w. not (B w)) l) x x h)
      where
        go : Earlier (filter B l) x x ⊎ ((In (filter B l) x × In (filter (λ w. not (B w)) l) x) ⊎ Earlier (filter (λ w. not (B w)) l) x x) → ⊥
        go (inl p) = once_kept B l once x p
        go (inr (inl p)) = not_true (B x) (in_of_kept B l x p.0).1 (in_of_kept (λ w. not (B w)) l x p.1).1
        go (inr (inr p)) = once_kept (λ w. not (B w)) l once x p

    pub earlier_apart : (l : List X) (x y : X) → B x ≡ true → B y ≡ false → In l x → In l y → Earlier (parted B l) x y
    earlier_apart l x y s t h k = earlier_across (filter B l) _ x y (in_kept B l x s h) (in_kept (λ w. not (B w)) l y (ap not t) k)

    pub earlier_parted : (l : List X) (x y : X) → (B y ≡ true → B x ≡ true) → Earlier l x y → Earlier (parted B l) x y
    earlier_parted l x y down h = go (B x) (B y) refl refl
      where
        go : (a b : Bool) → B x ≡ a → B y ≡ b → Earlier (parted B l) x y
        go true true p q = earlier_left (filter B l) _ x y (earlier_kept B l x y p q h)
        go true false p q = earlier_apart l x y p q (in_first l x y h) (in_second l x y h)
        go false true p q = absurd (false≢true (sym p ∙ down q))
        go false false p q = earlier_right (filter B l) _ x y (earlier_kept (λ w. not (B w)) l x y (ap not p) (ap not q) h)

-- what steps lead to

module _ {X : Type 0} {S : X → X → Type 0} where
  pub reaches_trans : {v w u : X} → Reaches S v u → Reaches S w v → Reaches S w u
  reaches_trans (there e) q = subst (Reaches S _) (sym e) q
  reaches_trans (onward s p) q = onward s (reaches_trans p q)

  -- a list that keeps every step, and has nothing twice, keeps every path
  pub reaches_earlier : (l : List X) → ((x : X) → Earlier l x x → ⊥) → ((x y : X) → S x y → Earlier l x y) → {v u : X} → Reaches S v u → (u ≡ v) ⊎ Earlier l u v
  reaches_earlier l once kept (there e) = inl e
  reaches_earlier l once kept {v} {u} (onward {w} s p) = elim (reaches_earlier l once kept p) [ inl e ↦ inr (subst (Earlier l u) e (kept u w s)) | inr h ↦ inr (earlier_trans l u w v once (kept u w s) h) ]
