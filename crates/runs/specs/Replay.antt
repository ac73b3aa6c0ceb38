-- A run of calls, each with a slice of its own.
use Rattle.std.specs.Prelude.{◌≡◌, ℕ, ◌<◌, List, [], ◌∷◌, length, Some, unwrap_or, vec_items, slice_index_or}
use Rattle.words.specs.Refusals.{refused}
use Rattle.tables.specs.Meaning.{Meaning}
use Rattle.stores.specs.Holding.{Holding}
use Rattle.board.specs.Standing.{Limits}
use Rattle.runs.specs.declared.calls.Call.{Call}
use Rattle.runs.specs.Law.{Outcome, Event, Law, StepKeeps}

-- the outcome that a call left; one that has not been made has left none, and this is then no more than some outcome
abbrev pub left_by : Call → Outcome
left_by d = unwrap_or d.answer (refused 10)

-- the call c, as it stands once it is made, as an event
abbrev pub event : Call → Call → Event
event c d = record { ask = c.ask; given = vec_items c.slice; answer = left_by d; left = vec_items d.slice }

-- the calls and what they are once they are made, as events
abbrev pub told : List Call → List Call → List Event
told [] ds = []
told (c ∷ cs) [] = []
told (c ∷ cs) (d ∷ ds) = event c d ∷ told cs ds

-- the calls `asked`, made in their order on a board made there, stand as `run` afterwards: what is asked is as it was, each has an outcome, and outcomes and slices are those of a run that has the law
pub record Replayed (b : Limits) (asked run : List Call) : Type 0 where
  pub size : length run ≡ length asked
  pub asks : (i : ℕ) (x : Call) → i < length asked → (slice_index_or run i x).ask ≡ (slice_index_or asked i x).ask
  pub answered : (i : ℕ) (x : Call) → i < length asked → (slice_index_or run i x).answer ≡ Some (left_by (slice_index_or run i x))
  pub law : Law b (told asked run)

-- the events are made of these calls, with whatever answers, and whatever they leave in the slices
abbrev pub MadeOf : List Call → List Event → Type 0
MadeOf [] [] = Unit {0}
MadeOf [] (e ∷ es) = ⊥
MadeOf (c ∷ cs) [] = ⊥
MadeOf (c ∷ cs) (e ∷ es) = (e.ask ≡ c.ask) × (e.given ≡ vec_items c.slice) × MadeOf cs es

-- whatever outcome of the calls `asked` has the law, it is this one
pub record OnlyOutcome (b : Limits) (asked run : List Call) : Type 0 where
  pub only : (es : List Event) → MadeOf asked es → Law b es → es ≡ told asked run

-- one call
pub record CallKeeps (m : Meaning) (h : Holding) (c d : Call) (m' : Meaning) (h' : Holding) : Type 0 where
  pub ask : d.ask ≡ c.ask
  pub answered : d.answer ≡ Some (left_by d)
  pub step : StepKeeps m h c.ask (vec_items c.slice) (left_by d) (vec_items d.slice) m' h'
