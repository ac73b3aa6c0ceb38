-- What it says that checks made one after the other are passed.
use Rattle.std.proofs.Common.{◌≡◌, ℕ, Bool, true, false, Ok, Err, Result, refl, arith}
use Rattle.words.specs.declared.Refusal.{Refusal}
use Rattle.words.specs.Refusals.{passed, then, unless, refused_if, LeftAlone}

pub then_first : {X : Type 0} (a : Result Unit Refusal) (b : Result X Refusal) (x : X) → Ok x ≡ then a b → passed ≡ a
then_first (Ok u) b x e = refl
then_first (Err r) b x e = let z : ◌≡◌ {A = ℕ} 0 1 = cc in absurd (omega arith)

pub then_second : {X : Type 0} (a : Result Unit Refusal) (b : Result X Refusal) (x : X) → Ok x ≡ then a b → Ok x ≡ b
then_second (Ok u) b x e = e
then_second (Err r) b x e = let z : ◌≡◌ {A = ℕ} 0 1 = cc in absurd (omega arith)

pub then_ok : {X : Type 0} (a : Result Unit Refusal) (b : Result X Refusal) → passed ≡ a → then a b ≡ b
then_ok (Ok u) b e = refl
then_ok (Err r) b e = let z : ◌≡◌ {A = ℕ} 0 1 = cc in absurd (omega arith)

pub then_assoc : {X : Type 0} (a b : Result Unit Refusal) (c : Result X Refusal) → then (then a b) c ≡ then a (then b c)
then_assoc (Ok u) b c = refl
then_assoc (Err e) b c = refl

pub unless_passed : (b : Bool) (n : ℕ) → passed ≡ unless b n → b ≡ true
unless_passed true n e = refl
unless_passed false n e = let z : ◌≡◌ {A = ℕ} 0 1 = cc in absurd (omega arith)

pub refused_if_passed : (b : Bool) (n : ℕ) → passed ≡ refused_if b n → b ≡ false
refused_if_passed true n e = let z : ◌≡◌ {A = ℕ} 0 1 = cc in absurd (omega arith)
refused_if_passed false n e = refl

pub left_alone_done : {A : Type 0} (r : Result Unit Refusal) (old new : A) → passed ≡ r → LeftAlone r old new
left_alone_done (Ok x) old new e = tt
left_alone_done (Err r) old new e = let z : ◌≡◌ {A = ℕ} 0 1 = cc in absurd (omega arith)
