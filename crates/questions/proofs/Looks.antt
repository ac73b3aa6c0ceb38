-- What is looked up in a table is a place.
use Rattle.std.proofs.Common.{◌≡◌, ℕ, ◌<◌, Some, None, Ok, Err, Option, Result}
use Rattle.words.specs.declared.Refusal.{Refusal}
use Rattle.words.specs.Refusals.{then}
use Rattle.tables.specs.Meaning.{Meaning, Lawful}
use Rattle.tables.specs.Answers.{taken}
use Rattle.tables.proofs.Extremes.{least_smallest, last_greatest}
use Rattle.order.specs.Cells.{Smallest, Greatest}
use Rattle.questions.specs.declared.rounds.Way.{Way}
use Rattle.questions.specs.declared.rounds.Way.TheVariants.{After, Before}
use Rattle.questions.specs.Looking.{or_none, look_of, Under}

smallest_under : (n : ℕ) (f : ℕ → Option ℕ) → ((i j : ℕ) → f i ≡ Some j → j < n) → (i : ℕ) (o : Option ℕ) → Smallest n f i o → Under n o
smallest_under n f below i None h = tt
smallest_under n f below i (Some j) h = let x = h.0 in below x.0 j x.3

greatest_under : (n : ℕ) (f : ℕ → Option ℕ) (j : ℕ) (o : Option ℕ) → Greatest n f j o → Under n o
greatest_under n f j None h = tt
greatest_under n f j (Some p) h = h.0.0

taken_under : (n : ℕ) (a : Result Unit Refusal) (o : Option ℕ) → Under n o → Under n (or_none (then a (Ok o)))
taken_under n (Ok x) o h = h
taken_under n (Err e) o h = tt

pub look_under : (w : Way) (m : Meaning) → Lawful m → (r q p : ℕ) → Under m.moves (look_of w m r q p)
look_under After m law r q p =
    taken_under m.moves (taken m r q p) _
    (smallest_under m.moves (m.cell r q) (λ i j e. law.value_below r q i j e) p _ (least_smallest m.moves (m.cell r q) p))
look_under Before m law r q p =
    taken_under m.moves (taken m q r p) _ (greatest_under m.moves (m.cell q r) p _ (last_greatest m.moves (m.cell q r) p))
