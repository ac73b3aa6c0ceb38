-- Refusals by their numbers. Every contract names a refusal by its number, and 0 stands for a call that is done.
use Rattle.std.specs.Prelude.{◌≡◌, ℕ, Bool, cond, Ok, Err, Result, ◌==◌}
use Rattle.words.specs.declared.Refusal.{Refusal}
use Rattle.words.specs.declared.Refusal.TheVariants.{NoSuchShuttle, NoSuchPlace, SameShuttle, AlreadyHeld, NotHeld, Circle, StoreFull, TableFull, TooShort, BadForm, BadSize, NoSuchKind}

-- the number of each refusal
abbrev pub number_of : Refusal → ℕ
number_of NoSuchShuttle = 1
number_of NoSuchPlace = 2
number_of SameShuttle = 3
number_of AlreadyHeld = 4
number_of NotHeld = 5
number_of Circle = 6
number_of StoreFull = 7
number_of TableFull = 8
number_of TooShort = 9
number_of BadForm = 10
number_of BadSize = 11
number_of NoSuchKind = 12

-- the refusal with this number: `numbered (number_of e)` is e, as the contract of `number` says
abbrev pub numbered : ℕ → Refusal
numbered n =
    cond (n == 1) NoSuchShuttle
    (cond (n == 2) NoSuchPlace
    (cond (n == 3) SameShuttle
    (cond (n == 4) AlreadyHeld
    (cond (n == 5) NotHeld
    (cond (n == 6) Circle
    (cond (n == 7) StoreFull
    (cond (n == 8) TableFull
    (cond (n == 9) TooShort
    (cond (n == 10) BadForm
    (cond (n == 11) BadSize NoSuchKind))))))))))

-- the call is refused with this number
abbrev pub refused : {X : Type 0} → ℕ → Result X Refusal
refused n = Err (numbered n)

-- the check is passed
abbrev pub passed : Result Unit Refusal
passed = Ok tt

-- the second answer, unless the first is a refusal: checks are made in this order
abbrev pub then : {X : Type 0} → Result Unit Refusal → Result X Refusal → Result X Refusal
then (Ok u) x = x
then (Err e) x = Err e

-- passed where the test holds, and else refused with this number
abbrev pub unless : Bool → ℕ → Result Unit Refusal
unless b n = cond b passed (refused n)

-- refused with this number where the test holds
abbrev pub refused_if : Bool → ℕ → Result Unit Refusal
refused_if b n = cond b (refused n) passed

-- the second value where the call is done, and the first where it is refused
abbrev pub if_done : {X A : Type 0} → Result X Refusal → A → A → A
if_done (Ok x) old new = new
if_done (Err e) old new = old

-- a call that is refused leaves what it was made on as it was: every field of it, and what its fields lend
abbrev pub LeftAlone : {X A : Type 0} → Result X Refusal → A → A → Type 0
LeftAlone (Ok x) old new = Unit {0}
LeftAlone (Err e) old new = new ≡ old
