-- How many leaves a tree for n places has: the smallest power of two not below n.
use Rattle.std.specs.Prelude.{◌≡◌, ℕ, zero, suc, ◌+◌, ◌*◌, ◌^◌, ◌<◌, ◌≤◌, true, false, cond, ltb, nat_lt, refl}
use Rattle.std.proofs.Common.{pow-suc, arith, sym, ap, ◌∙◌, ⊎_elim}
use Rattle.std.proofs.lemmas.Bool.{cases_Bool, ltb-true, ltb-false}

-- the first of p, 2 p, 4 p, .. that is not below n, after f steps at most
abbrev pub doubled : (f n p : ℕ) → ℕ
doubled zero n p = p
doubled (suc f) n p = cond (nat_lt p n) (doubled f n (2 * p)) p

-- n steps are enough
unfoldable pub leaves_of : ℕ → ℕ
leaves_of n = doubled n n 1

-- p is a power of two
abbrev pub Power : ℕ → Type 0
Power p = (d : ℕ) × (p ≡ 2 ^ d)

pub pow_twice : (d : ℕ) → 2 ^ suc d ≡ 2 * 2 ^ d
pow_twice d = omega (arith, pow-suc 2 d)

doubled_power : (f n p : ℕ) → Power p → Power (doubled f n p)
doubled_power zero n p h = h
doubled_power (suc f) n p h =
    ⊎_elim
    (λ (e : ltb p n ≡ true). rw e (doubled_power f n (2 * p) (suc h.0, ap (λ x. 2 * x) h.1 ∙ sym (pow_twice h.0))))
    (λ (e : ltb p n ≡ false). rw e h)
    (cases_Bool (nat_lt p n))

doubled_enough : (f n p : ℕ) → 0 < p → n ≤ p + f → n ≤ doubled f n p
doubled_enough zero n p some h = omega arith
doubled_enough (suc f) n p some h =
    ⊎_elim
    (λ (e : ltb p n ≡ true). rw e (doubled_enough f n (2 * p) (omega arith) (omega arith)))
    (λ (e : ltb p n ≡ false). rw e (ltb-false p n e))
    (cases_Bool (nat_lt p n))

doubled_few : (f n p b : ℕ) → p < b → 2 * n ≤ b → doubled f n p < b
doubled_few zero n p b h l = h
doubled_few (suc f) n p b h l =
    ⊎_elim
    (λ (e : ltb p n ≡ true). rw e (doubled_few f n (2 * p) b (omega (arith, ltb-true p n e)) l))
    (λ (e : ltb p n ≡ false). rw e h)
    (cases_Bool (nat_lt p n))

pub leaves_power : (n : ℕ) → Power (leaves_of n)
unfolding leaves_of
leaves_power n = doubled_power n n 1 (0, refl)

pub leaves_enough : (n : ℕ) → n ≤ leaves_of n
unfolding leaves_of
leaves_enough n = doubled_enough n n 1 (omega arith) (omega arith)

-- half as many are too few
pub leaves_smallest : (n : ℕ) → 0 < n → leaves_of n < 2 * n
unfolding leaves_of
leaves_smallest n some = doubled_few n n 1 (2 * n) (omega arith) (omega arith)

pub leaves_few : (n : ℕ) → leaves_of n < 2 * n + 2
unfolding leaves_of
leaves_few n = doubled_few n n 1 (2 * n + 2) (omega arith) (omega arith)
