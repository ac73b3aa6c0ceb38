-- Where a move stands in a list, as a number; how many of k numbers are below another; the first place that passes a test.
use Rattle.std.proofs.Common.{◌≡◌, ℕ, zero, suc, ◌+◌, ◌<◌, ◌≤◌, Bool, true, false, cond, ltb, List, [], ◌∷◌, length, sym, refl, ap, ◌∙◌, subst, inl, inr, arith, ltb-true, le-ltb, lt-ltb}
use mathlib.Core.HLevel.{Discrete}
use mathlib.Core.Bool.{false≢true}
use native.Mathlib.Decide.{dec_lt}
use Rattle.order.specs.Lists.{Earlier}
use Rattle.order.proofs.Lists.{in_first, in_second}

-- the place of x in the list

module _ {X : Type 0} (same : Discrete X) where
  abbrev pub place_of : List X → X → ℕ
  place_of [] x = zero
  place_of (z ∷ l) x = elim (same z x) [ yes e ↦ zero | no q ↦ suc (place_of l x) ]

  pub place_rises : (l : List X) → ((w : X) → Earlier l w w → ⊥) → (x y : X) → Earlier l x y → place_of l x < place_of l y
  place_rises [] once x y h = absurd h
  place_rises (z ∷ l) once x y (inl h) = go (same z x) (same z y)
    where
      go : (d : Dec (z ≡ x)) (e : Dec (z ≡ y)) → elim d [ yes e ↦ zero | no q ↦ suc (place_of l x) ] < elim e [ yes e ↦ zero | no q ↦ suc (place_of l y) ]
      go (yes d) (yes e) = absurd (once y (inl (e, h.1)))
      go (yes d) (no e) = omega arith
      go (no d) e = absurd (d h.0)
  place_rises (z ∷ l) once x y (inr h) = go (place_rises l (λ w g. once w (inr g)) x y h) (same z x) (same z y)
    where
      go : place_of l x < place_of l y → (d : Dec (z ≡ x)) (e : Dec (z ≡ y)) → elim d [ yes e ↦ zero | no q ↦ suc (place_of l x) ] < elim e [ yes e ↦ zero | no q ↦ suc (place_of l y) ]
      go ih (yes d) e = absurd (once x (inl (d, in_first l x y h)))
      go ih (no d) (yes e) = absurd (once y (inl (e, in_second l x y h)))
      go ih (no d) (no e) = omega arith

  pub place_small : (l : List X) (x : X) → place_of l x ≤ length l
  place_small [] x = omega arith
  place_small (z ∷ l) x = go (same z x) (place_small l x)
    where
      go : (d : Dec (z ≡ x)) → place_of l x ≤ length l → elim d [ yes e ↦ zero | no q ↦ suc (place_of l x) ] ≤ suc (length l)
      go (yes e) ih = omega arith
      go (no q) ih = omega arith

-- how many numbers below k pass

abbrev pub unit_if : Bool → ℕ
unit_if b = cond b 1 0

abbrev pub many : (ℕ → Bool) → ℕ → ℕ
many P zero = zero
many P (suc k) = many P k + unit_if (P k)

bit : (a b : Bool) → (a ≡ true → b ≡ true) → unit_if a ≤ unit_if b
bit true true h = omega arith
bit true false h = absurd (false≢true (h refl))
bit false true h = omega arith
bit false false h = omega arith

pub many_le : (P Q : ℕ → Bool) (k : ℕ) → ((r : ℕ) → P r ≡ true → Q r ≡ true) → many P k ≤ many Q k
many_le P Q zero h = omega arith
many_le P Q (suc k) h = omega (arith, many_le P Q k h, bit (P k) (Q k) (h k))

pub many_lt : (P Q : ℕ → Bool) (k : ℕ) → ((r : ℕ) → P r ≡ true → Q r ≡ true) → (r : ℕ) → r < k → P r ≡ false → Q r ≡ true → many P k < many Q k
many_lt P Q zero h r l p q = absurd (omega arith)
many_lt P Q (suc k) h r l p q =
    elim (dec_lt r k) [
      | yes a ↦ omega (arith, many_lt P Q k h r a p q, bit (P k) (Q k) (h k))
      | no a ↦ let e : r ≡ k = omega arith in omega (arith, many_le P Q k h, low e, high e)
    ]
  where
    low : r ≡ k → unit_if (P k) ≡ 0
    low e = subst (λ m. unit_if (P m) ≡ 0) e (ap unit_if p)

    high : r ≡ k → unit_if (Q k) ≡ 1
    high e = subst (λ m. unit_if (Q m) ≡ 1) e (ap unit_if q)

many_true : (k : ℕ) → many (λ _. true) k ≡ k
many_true zero = refl
many_true (suc k) = omega (arith, many_true k)

-- the numbers below k whose R is below that of q

abbrev pub depth : (ℕ → ℕ) → ℕ → ℕ → ℕ
depth R k q = many (λ r. ltb (R r) (R q)) k

pub depth_small : (R : ℕ → ℕ) (k q : ℕ) → q < k → depth R k q < k
depth_small R k q l = omega (arith, many_true k, many_lt (λ r. ltb (R r) (R q)) (λ _. true) k (λ _ _. refl) q l (le-ltb (R q) (R q) (omega arith)) refl)

pub depth_rises : (R : ℕ → ℕ) (k r q : ℕ) → r < k → R r < R q → depth R k r < depth R k q
depth_rises R k r q l h =
    many_lt (λ t. ltb (R t) (R r)) (λ t. ltb (R t) (R q)) k (λ t e. lt-ltb (R t) (R q) (omega (arith, ltb-true (R t) (R r) e))) r l (le-ltb (R r) (R r) (omega arith)) (lt-ltb (R r) (R q) h)

-- the first place below n that passes, or n

abbrev pub first : (ℕ → Bool) → ℕ → ℕ
first P zero = zero
first P (suc n) = cond (P zero) zero (suc (first (λ j. P (suc j)) n))

pub first_is : (P : ℕ → Bool) (n j : ℕ) → j < n → P j ≡ true → (P (first P n) ≡ true) × (first P n ≤ j)
first_is P zero j l t = absurd (omega arith)
first_is P (suc n) zero l t = go (P zero) refl
  where
    go : (b : Bool) → P zero ≡ b → (P (cond b zero (suc (first (λ i. P (suc i)) n))) ≡ true) × (cond b zero (suc (first (λ i. P (suc i)) n)) ≤ zero)
    go true e = (e, omega arith)
    go false e = absurd (false≢true (sym e ∙ t))
first_is P (suc n) (suc j) l t = go (P zero) refl (first_is (λ i. P (suc i)) n j (omega arith) t)
  where
    go : (b : Bool) → P zero ≡ b → (P (suc (first (λ i. P (suc i)) n)) ≡ true) × (first (λ i. P (suc i)) n ≤ j) → (P (cond b zero (suc (first (λ i. P (suc i)) n))) ≡ true) × (cond b zero (suc (first (λ i. P (suc i)) n)) ≤ suc j)
    go true e ih = (e, omega arith)
    go false e ih = (ih.0, omega (arith, ih.1))

-- the last place below n that passes, or 0

abbrev pub latest : (ℕ → Bool) → ℕ → ℕ
latest P zero = zero
latest P (suc n) = cond (P n) n (latest P n)

pub latest_is : (P : ℕ → Bool) (n j : ℕ) → j < n → P j ≡ true → (P (latest P n) ≡ true) × (j ≤ latest P n)
latest_is P zero j l t = absurd (omega arith)
latest_is P (suc n) j l t = go (P n) refl (dec_lt j n) (λ l'. latest_is P n j l' t)
  where
    go : (b : Bool) → P n ≡ b → Dec (j < n) → (j < n → (P (latest P n) ≡ true) × (j ≤ latest P n)) → (P (cond b n (latest P n)) ≡ true) × (j ≤ cond b n (latest P n))
    go true e d ih = (e, omega arith)
    go false e (yes d) ih = ih d
    go false e (no d) ih = absurd (false≢true (sym e ∙ (let e' : n ≡ j = omega arith in subst (λ m. P m ≡ true) (sym e') t)))
