-- Powers of two, and the levels of a tree: the numbers from 2 ^ h to 2 * 2 ^ h - 1 are one.
use Rattle.std.proofs.Common.{◌≡◌, ℕ, zero, suc, ◌*◌, ◌/◌, ◌^◌, ◌<◌, ◌≤◌, max, ap, ⊎_elim, arith}
use Rattle.std.proofs.lemmas.Nat.{pow_pos, pow_below}
use Rattle.std.proofs.lemmas.Bool.{cases_lt, cases_order}
use Rattle.fulltree.specs.Leaves.{leaves_of, Power, pow_twice, leaves_power, leaves_enough, leaves_smallest, leaves_few}

pub pow_le : (i j : ℕ) → i ≤ j → 2 ^ i ≤ 2 ^ j
pow_le i j l =
    ⊎_elim
    (λ (a : i < j). omega (arith, pow_below i j a))
    (λ (a : j ≤ i). let same : i ≡ j = omega arith in omega (arith, ap (λ x. 2 ^ x) same))
    (cases_lt i j)

-- one level more stays within a greater power
pub pow_more : (i j : ℕ) → 2 ^ i < 2 ^ j → 2 * 2 ^ i ≤ 2 ^ j
pow_more i j l =
    ⊎_elim
    (λ (a : i < j). omega (arith, pow_twice i, pow_le (suc i) j a))
    (λ (a : j ≤ i). absurd (omega (arith, pow_le j i a)))
    (cases_lt i j)

-- two powers between n and 2 n are one
pub power_same : (n p q : ℕ) → Power p → Power q → n ≤ p → p / 2 < max 1 n → n ≤ q → q / 2 < max 1 n → p ≡ q
power_same n p q (a, e) (b, f) lp hp lq hq =
    ⊎_elim
    (λ (same : p ≡ q). same)
    (⊎_elim
    (λ (l : p < q). absurd (omega (arith, pow_more a b (omega arith), pow_pos a)))
    (λ (l : q < p). absurd (omega (arith, pow_more b a (omega arith), pow_pos b))))
    (cases_order p q)

pub leaves_is : (n p : ℕ) → Power p → n ≤ p → p / 2 < max 1 n → p ≡ leaves_of n
leaves_is n p h enough half = power_same n p (leaves_of n) h (leaves_power n) enough half (leaves_enough n) (halved n)
  where
    halved : (n : ℕ) → leaves_of n / 2 < max 1 n
    halved zero = omega (arith, leaves_few 0)
    halved (suc n) = omega (arith, leaves_smallest (suc n) (omega arith))
