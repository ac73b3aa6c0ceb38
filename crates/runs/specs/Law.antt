-- The law on whole runs: what the calls on a board made just before answer, from the calls and their answers alone.
use Rattle.std.specs.Prelude.{◌≡◌, ℕ, ◌<◌, ◌≤◌, Bool, ◌↔◌, List, [], ◌∷◌, length, take, Ok, Err, Option, Result, ◌≢◌, slice_index_or}
use Rattle.words.specs.declared.Refusal.{Refusal}
use Rattle.words.specs.Codes.{move_of}
use Rattle.tables.specs.Meaning.{Meaning}
use Rattle.stores.specs.Holding.{Holding}
use Rattle.order.specs.Board.{Move, On, Before, Ordered}
use Rattle.questions.specs.declared.rounds.Way.TheVariants.{After, Before as Ahead}
use Rattle.board.specs.Standing.{Limits, Waits, Stands, lengths, without, Placed, Circled, remove_gives, Found, Tells, AlwaysEarlier, Listed, Pushed, Tested}
use Rattle.runs.specs.declared.calls.Ask.{Ask}
use Rattle.runs.specs.declared.calls.Ask.TheVariants.{Place, Remove, Before as IsBefore, FirstAfter, LastBefore, List as ListMoves, Push as PushMove, Test as TestOrder}
use Rattle.runs.specs.declared.calls.Answer.{Answer}
use Rattle.runs.specs.declared.calls.Answer.TheVariants.{Done, Truth, Found as Found_at, Listed as ListedAs, Tested as TestedAs}

-- what a call leaves: its answer, or why it is refused
abbrev pub Outcome : Type 0
Outcome = Result Answer Refusal

-- results as outcomes

abbrev pub done_answer : Result Unit Refusal → Outcome
done_answer (Ok x) = Ok Done
done_answer (Err e) = Err e

abbrev pub truth_answer : Result Bool Refusal → ℕ → Outcome
truth_answer (Ok y) c = Ok (Truth y c)
truth_answer (Err e) c = Err e

abbrev pub found_answer : Result (Option ℕ) Refusal → ℕ → Outcome
found_answer (Ok o) c = Ok (Found_at o c)
found_answer (Err e) c = Err e

abbrev pub count_answer : Result ℕ Refusal → Outcome
count_answer (Ok n) = Ok (ListedAs n)
count_answer (Err e) = Err e

-- the first waits where the call is done, and else the second
abbrev pub where_done : Outcome → Waits → Waits → Waits
where_done (Ok Done) V W = V
where_done (Ok (Truth y c)) V W = W
where_done (Ok (Found_at o c)) V W = W
where_done (Ok (ListedAs n)) V W = W
where_done (Ok (TestedAs y)) V W = W
where_done (Err e) V W = W

-- the waits that stand after a call, from the call and its answer alone: a placement done adds its wait, a removal done takes it out, nothing else changes them
abbrev pub after_call : Waits → Ask → Outcome → Waits
after_call W (Place u v) a = where_done a ((move_of u, move_of v) ∷ W) W
after_call W (Remove u v) a = where_done a (without W (move_of u) (move_of v)) W
after_call W (IsBefore u v) a = W
after_call W (FirstAfter u t) a = W
after_call W (LastBefore u t) a = W
after_call W ListMoves a = W
after_call W (PushMove v) a = W
after_call W TestOrder a = W

-- the answer to a call where the waits W stand, and what it leaves in its slice
abbrev pub Answered : Limits → Waits → Ask → List ℕ → Outcome → List ℕ → Type 0
Answered b W (Place u v) old a new = ((r : Result Unit Refusal) × (a ≡ done_answer r) × Placed b W u v r × Circled b W u v r) × (new ≡ old)
Answered b W (Remove u v) old a new = (a ≡ done_answer (remove_gives b W u v)) × (new ≡ old)
Answered b W (IsBefore u v) old a new = ((r : Result Bool Refusal) × (c : ℕ) × (a ≡ truth_answer r c) × Tells b W u v r c) × (new ≡ old)
Answered b W (FirstAfter u t) old a new = ((r : Result (Option ℕ) Refusal) × (c : ℕ) × (a ≡ found_answer r c) × Found After b W u t r c) × (new ≡ old)
Answered b W (LastBefore u t) old a new = ((r : Result (Option ℕ) Refusal) × (c : ℕ) × (a ≡ found_answer r c) × Found Ahead b W u t r c) × (new ≡ old)
Answered b W ListMoves old a new = (r : Result ℕ Refusal) × (a ≡ count_answer r) × Listed b W old new r
Answered b W (PushMove v) old a new = (r : Result ℕ Refusal) × (a ≡ count_answer r) × Pushed b W v old new r
Answered b W TestOrder old a new = ((y : Bool) × (a ≡ Ok (TestedAs y)) × Tested b W old y) × (new ≡ old)

-- a call, what its slice held before, its answer, and what its slice holds afterwards
pub record Event : Type 0 where
  pub ask : Ask
  pub given : List ℕ
  pub answer : Outcome
  pub left : List ℕ

-- the waits that stand after some events, W standing at first
abbrev pub standing_from : Waits → List Event → Waits
standing_from W [] = W
standing_from W (e ∷ es) = standing_from (after_call W e.ask e.answer) es

-- on a board just made no wait stands
abbrev pub standing : List Event → Waits
standing es = standing_from [] es

-- the waits have a running order, and one move is before a different one exactly where every running order has it earlier
pub record Upright (b : Limits) (W : Waits) : Type 0 where
  pub order : Ordered b.shuttles (lengths b) W
  pub before : (u v : Move) → On b.shuttles (lengths b) u → On b.shuttles (lengths b) v → (u ≢ v)
      → Before b.shuttles (lengths b) W u v ↔ AlwaysEarlier b W u v

-- the event is right where the waits W stand
abbrev pub RightAt : Limits → Waits → Event → Type 0
RightAt b W e = Answered b W e.ask e.given e.answer e.left

-- the law: each call answers and writes what is right at the waits that stand just before it, and after the making and after every call these are upright
pub record Law (b : Limits) (es : List Event) : Type 0 where
  pub each : (i : ℕ) (x : Event) → i < length es → RightAt b (standing (take i es)) (slice_index_or es i x)
  pub upright : (i : ℕ) → i ≤ length es → Upright b (standing (take i es))

-- the same calls one after the other, each with the same slice at first
abbrev pub SameCalls : List Event → List Event → Type 0
SameCalls [] [] = Unit {0}
SameCalls [] (f ∷ fs) = ⊥
SameCalls (e ∷ es) [] = ⊥
SameCalls (e ∷ es) (f ∷ fs) = (e.ask ≡ f.ask) × (e.given ≡ f.given) × SameCalls es fs

-- the law leaves one outcome: events of the same calls that have it have the same answers too, and leave the same in every slice
abbrev pub OneOutcome : Limits → Type 0
OneOutcome b = (es fs : List Event) → SameCalls es fs → Law b es → Law b fs → es ≡ fs

-- what one call says of all waits that stand on its board
pub record StepKeeps (m : Meaning) (h : Holding) (q : Ask) (old : List ℕ) (a : Outcome) (new : List ℕ) (m' : Meaning) (h' : Holding) : Type 0 where
  pub keeps : (b : Limits) (W : Waits) → Stands b W m h → Answered b W q old a new × Stands b (after_call W q a) m' h'
