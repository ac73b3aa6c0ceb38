-- A buffer that is as long as its table needs leaves only the check of the sizes.
use Rattle.std.proofs.Common.{◌≡◌, ℕ, ◌-◌, ◌*◌, min, leb, None, Ok, Err, Result, refl, arith}
use Rattle.std.proofs.lemmas.Bool.{le-leb}
use Rattle.words.specs.declared.Refusal.{Refusal}
use Rattle.words.specs.declared.kinds.TableKind.TheVariants.{Plain, Full}
use Rattle.words.specs.Refusals.{then, unless, if_done}
use Rattle.tables.specs.Meaning.{Meaning, full_meaning}
use Rattle.tables.specs.Answers.{sizable}
use Rattle.tables.specs.Plain.{plain_check, plain_made}
use Rattle.fulltree.specs.Full.{numbers_of, full_check, full_made}
use Rattle.boards.specs.declared.Design.{Design}
use Rattle.boards.specs.Designs.{limits_of, limits_with}

fitting : (a : Result Unit Refusal) (m l : ℕ) → l ≡ if_done a 0 m → then a (unless (leb m l) 9) ≡ a
fitting (Ok u) m l e = rw (e, le-leb m m (omega arith))
fitting (Err r) m l e = refl

-- the limits of a board over a table that is made, or has one shuttle with one move where the sizes are refused
made : (a : Result Unit Refusal) (k n w : ℕ) → limits_with (if_done a (full_meaning 1 1 (λ s t i. None)) (full_meaning k n (λ s t i. None))) w ≡ record { shuttles = if_done a 1 k; moves = if_done a 1 n; cells = if_done a 0 (k * (k - 1) * n); waits = min w 65535 }
made (Ok u) k n w = refl
made (Err r) k n w = refl

pub plain_limits : (d : Design) (l : ℕ) (m : Meaning) → d.table ≡ Plain → l ≡ if_done (sizable d.aisle.shuttles d.aisle.moves) 0 (d.aisle.shuttles * d.aisle.shuttles * d.aisle.moves) → m ≡ plain_made d.aisle.shuttles d.aisle.moves l → limits_with m d.waits ≡ limits_of d
unfolding plain_check
plain_limits d l m is fits means =
    rw (is, means, fitting (sizable d.aisle.shuttles d.aisle.moves) (d.aisle.shuttles * d.aisle.shuttles * d.aisle.moves) l fits)
    (made (sizable d.aisle.shuttles d.aisle.moves) d.aisle.shuttles d.aisle.moves d.waits)

pub full_limits : (d : Design) (l : ℕ) (m : Meaning) → d.table ≡ Full → l ≡ if_done (sizable d.aisle.shuttles d.aisle.moves) 0 (numbers_of d.aisle.shuttles d.aisle.moves) → m ≡ full_made d.aisle.shuttles d.aisle.moves l → limits_with m d.waits ≡ limits_of d
unfolding full_check
full_limits d l m is fits means =
    rw (is, means, fitting (sizable d.aisle.shuttles d.aisle.moves) (numbers_of d.aisle.shuttles d.aisle.moves) l fits)
    (made (sizable d.aisle.shuttles d.aisle.moves) d.aisle.shuttles d.aisle.moves d.waits)
