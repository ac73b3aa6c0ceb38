-- What a loose list means: the waits in the first `count` of its records, in any order.
use Rattle.std.specs.Prelude.{◌≡◌, ℕ, ◌-◌, ◌<◌, false, List, length, take, Ok, Err, Result, slice_index_or, slice_set}
use Rattle.words.specs.declared.Refusal.{Refusal}
use Rattle.stores.specs.declared.wait.Wait.{Wait}
use Rattle.stores.specs.Holding.{Holding}
use Rattle.stores.specs.Waits.{wait_of, held_in}
use Rattle.stores.specs.Rows.{room}

abbrev pub loose_holding : List Wait → (count : ℕ) → Holding
loose_holding records count = record { held = held_in (take count records); count = count; capacity = room (length records) }

-- an empty list over so many records
abbrev pub empty_holding : ℕ → Holding
empty_holding n = record { held = λ a b. false; count = 0; capacity = room n }

-- the records after `remove`: the last of the n in use stands in the place of the wait from u to v, and the others are as they were
abbrev pub ClosedUp : Result Unit Refusal → List Wait → (n u v : ℕ) → List Wait → Type 0
ClosedUp (Ok x) old n u v new = (p : ℕ) × (p < n) × (slice_index_or old p (wait_of 0 0) ≡ wait_of u v) × (new ≡ slice_set old p (slice_index_or old (n - 1) (wait_of 0 0)))
ClosedUp (Err e) old n u v new = new ≡ old
