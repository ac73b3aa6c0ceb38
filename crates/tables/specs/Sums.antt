-- Sums of f 0, .., f (n - 1).
use Rattle.std.specs.Prelude.{◌≡◌, ℕ, zero, suc, ◌+◌, ◌*◌, ◌<◌, ◌≤◌, true, false, cond, ◌==◌, nat_eq}
use Rattle.std.proofs.Common.{suc-mul, arith, ⊎_elim}
use Rattle.std.proofs.lemmas.Bool.{cases_eq, eq-eqb, ne_eqb}
use Rattle.tables.specs.Meaning.{sum_below}

pub sum_mono : (n : ℕ) (f g : ℕ → ℕ) → ((i : ℕ) → i < n → f i ≤ g i) → sum_below n f ≤ sum_below n g
sum_mono zero f g h = omega arith
sum_mono (suc n) f g h = omega (arith, sum_mono n f g (λ i l. h i (omega arith)), h n (omega arith))

pub sum_same : (n b : ℕ) → sum_below n (λ _. b) ≡ n * b
sum_same zero b = omega arith
sum_same (suc n) b = omega (arith, sum_same n b, suc-mul n b)

sum_but_past : (k s b : ℕ) → k ≤ s → sum_below k (λ t. cond (s == t) 0 b) ≡ k * b
sum_but_past zero s b l = omega arith
sum_but_past (suc k) s b l =
    let ne : nat_eq s k ≡ false = ne_eqb s k (λ e. omega arith) in
    rw (ne, suc-mul k b, sum_but_past k s b (omega arith))

-- b for each t but s
pub sum_but : (k s b : ℕ) → s < k → sum_below k (λ t. cond (s == t) 0 b) + b ≡ k * b
sum_but zero s b l = omega arith
sum_but (suc k) s b l =
    ⊎_elim
    (λ (e : s ≡ k).
    let same : nat_eq s k ≡ true = eq-eqb s k e in
    rw same (omega (arith, sum_but_past k s b (omega arith), suc-mul k b)))
    (λ ne.
    let other : nat_eq s k ≡ false = ne_eqb s k ne in
    rw other (omega (arith, sum_but k s b (omega arith), suc-mul k b)))
    (cases_eq s k)
