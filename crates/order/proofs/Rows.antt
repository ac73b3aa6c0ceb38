-- The shuttles one after the other are a running order of no edges.
use Rattle.std.proofs.Common.{◌≡◌, ℕ, zero, suc, ◌<◌, [], ◌∷◌, sym, ap, subst, inl, inr, arith}
use native.Mathlib.Decide.{dec_lt}
use Rattle.order.specs.Lists.{In, Earlier}
use Rattle.order.specs.Board.{Lengths, Move, On, row, rows}
use Rattle.order.specs.Laws.{Starts}
use Rattle.order.proofs.Lists.{in_left, in_right, in_either, earlier_left, earlier_right, earlier_across, earlier_either}

in_row : (s n j : ℕ) → j < n → In (row s n) (s, j)
in_row s zero j h = absurd (omega arith)
in_row s (suc n) j h = elim (dec_lt j n) [ yes p ↦ in_left (row s n) _ _ (in_row s n j p) | no q ↦ in_right (row s n) _ _ (inl (ap (λ i. (s, i)) (omega arith))) ]

in_one : {X : Type 0} (z x : X) → In (z ∷ []) x → z ≡ x
in_one z x (inl e) = e
in_one z x (inr h) = absurd h

none_earlier : {X : Type 0} (z x y : X) → Earlier (z ∷ []) x y → ⊥
none_earlier z x y (inl e) = e.1
none_earlier z x y (inr h) = h

of_row : (s n : ℕ) (x : Move) → In (row s n) x → (x.0 ≡ s) × (x.1 < n)
of_row s zero x h = absurd h
of_row s (suc n) x h =
    elim (in_either (row s n) ((s, n) ∷ []) x h) [
      | inl p ↦ let r = of_row s n x p in (r.0, omega (arith, r.1))
      | inr q ↦ let e = in_one (s, n) x q in (ap (λ m. m.0) (sym e), omega (arith, ap (λ m. m.1) e))
    ]

rising_row : (s n i j : ℕ) → i < j → j < n → Earlier (row s n) (s, i) (s, j)
rising_row s zero i j a b = absurd (omega arith)
rising_row s (suc n) i j a b =
    elim (dec_lt j n) [
      | yes p ↦ earlier_left (row s n) _ _ _ (rising_row s n i j a p)
      | no q ↦ earlier_across (row s n) _ _ _ (in_row s n i (omega arith)) (inl (ap (λ m. (s, m)) (omega arith)))
    ]

once_row : (s n : ℕ) (x : Move) → Earlier (row s n) x x → ⊥
once_row s zero x h = h
once_row s (suc n) x h =
    elim (earlier_either (row s n) ((s, n) ∷ []) x x h) [
      | inl p ↦ once_row s n x p
      | inr (inl q) ↦ omega (arith, (of_row s n x q.0).1, ap (λ m. m.1) (in_one (s, n) x q.1))
      | inr (inr q) ↦ none_earlier (s, n) x x q
    ]

in_rows : (k : ℕ) (len : Lengths) (x : Move) → On k len x → In (rows k len) x
in_rows zero len x h = absurd (omega arith)
in_rows (suc k) len x h =
    elim (dec_lt x.0 k) [
      | yes p ↦ in_left (rows k len) _ x (in_rows k len x (p, h.1))
      | no q ↦ let e : x.0 ≡ k = omega arith in
          in_right (rows k len) _ x (subst (λ s. In (row k (len k)) (s, x.1)) (sym e) (in_row k (len k) x.1 (subst (λ s. x.1 < len s) e h.1)))
    ]

of_rows : (k : ℕ) (len : Lengths) (x : Move) → In (rows k len) x → On k len x
of_rows zero len x h = absurd h
of_rows (suc k) len x h =
    elim (in_either (rows k len) (row k (len k)) x h) [
      | inl p ↦ let r = of_rows k len x p in (omega (arith, r.0), r.1)
      | inr q ↦ let r = of_row k (len k) x q in (omega (arith, r.0), subst (λ s. x.1 < len s) (sym r.0) r.1)
    ]

rising_rows : (k : ℕ) (len : Lengths) (s i j : ℕ) → s < k → i < j → j < len s → Earlier (rows k len) (s, i) (s, j)
rising_rows zero len s i j h a b = absurd (omega arith)
rising_rows (suc k) len s i j h a b =
    elim (dec_lt s k) [
      | yes p ↦ earlier_left (rows k len) _ _ _ (rising_rows k len s i j p a b)
      | no q ↦ let e : s ≡ k = omega arith in
          earlier_right (rows k len) _ _ _ (subst (λ t. Earlier (row k (len k)) (t, i) (t, j)) (sym e) (rising_row k (len k) i j a (subst (λ t. j < len t) e b)))
    ]

once_rows : (k : ℕ) (len : Lengths) (x : Move) → Earlier (rows k len) x x → ⊥
once_rows zero len x h = h
once_rows (suc k) len x h =
    elim (earlier_either (rows k len) (row k (len k)) x x h) [
      | inl p ↦ once_rows k len x p
      | inr (inl q) ↦ omega (arith, (of_rows k len x q.0).0, (of_row k (len k) x q.1).0)
      | inr (inr q) ↦ once_row k (len k) x q
    ]

pub starts : Starts
starts k len = record { each = in_rows k len; only = of_rows k len; once = once_rows k len; rising = rising_rows k len; follows = λ u v h. absurd h }
