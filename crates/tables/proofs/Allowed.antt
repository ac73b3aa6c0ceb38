-- What it says that the numbers of a cell are taken; the way there is `inside_from` of specs/Checked.
use Rattle.std.proofs.Common.{◌≡◌, ℕ, ◌<◌, false, ◌⊎◌, is_ok, Ok, Err, Result, refl, inl, inr, arith}
use Rattle.std.proofs.lemmas.Bool.Decides.{nat_tests}
use Rattle.words.specs.Refusals.{passed}
use Rattle.tables.specs.Meaning.{Small}
use Rattle.tables.specs.Answers.{allowed, valued, sizable}
use Rattle.tables.specs.Checked.{Inside, inside_from}

ok_or : {E : Type 0} (r : Result Unit E) → (is_ok r ≡ false) ⊎ (r ≡ Ok tt)
ok_or (Ok u) = inr refl
ok_or (Err e) = inl refl

pub allowed_from : (k n s t i : ℕ) → Inside k n s t i → allowed k n s t i ≡ passed
unfolding allowed
allowed_from k n s t i h = grind (arith, nat_tests)

pub allowed_or : (k n s t i : ℕ) → (is_ok (allowed k n s t i) ≡ false) ⊎ (allowed k n s t i ≡ passed)
allowed_or k n s t i = ok_or (allowed k n s t i)

-- another place of the same pair
pub allowed_at : (k n s t i p : ℕ) → allowed k n s t i ≡ passed → p < n → allowed k n s t p ≡ passed
allowed_at k n s t i p ok l =
    let h = inside_from k n s t i ok in
    allowed_from k n s t p (record { from_below = h.from_below; to_below = h.to_below; apart = h.apart; place_below = l })

pub valued_from : (n j : ℕ) → j < n → valued n j ≡ passed
unfolding valued
valued_from n j l = grind (arith, nat_tests)

pub value_from : (n j : ℕ) → valued n j ≡ passed → j < n
unfolding valued
value_from n j e = grind (arith, nat_tests)

pub sizable_small : (k n : ℕ) → sizable k n ≡ passed → Small k n
unfolding sizable
sizable_small k n e = (grind (arith, nat_tests), grind (arith, nat_tests), grind (arith, nat_tests), grind (arith, nat_tests))
