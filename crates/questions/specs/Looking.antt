-- The two ways to ask, and what a table answers on each.
use Rattle.std.specs.Prelude.{◌≡◌, ℕ, suc, ◌<◌, Some, None, Ok, Err, Option, Result}
use Rattle.words.specs.declared.Refusal.{Refusal}
use Rattle.tables.specs.Meaning.{Meaning}
use Rattle.tables.specs.Answers.{least_answer, last_answer}
use Rattle.order.specs.Rounds.{Table, Pick, Row, entry, sooner, later, turned, rounds, Settled}
use Rattle.questions.specs.declared.rounds.Way.{Way}
use Rattle.questions.specs.declared.rounds.Way.TheVariants.{After, Before}

-- a table's answer, or none where it refuses
abbrev pub or_none : Result (Option ℕ) Refusal → Option ℕ
or_none (Ok o) = o
or_none (Err e) = None

-- what is kept of two entries: the earlier after a move, the later before it
abbrev pub pick_of : Way → Pick
pick_of After = sooner
pick_of Before = later

-- what is looked up from the place p of r for q: the least value on the pair (r, q) from p on, or the last place of the pair (q, r) up to p
abbrev pub look_of : Way → Meaning → Table
look_of After m = λ r q p. or_none (least_answer m r q p)
look_of Before m = turned (λ s t j. or_none (last_answer m s t j))

-- the entry is none, or a place below n
abbrev pub Under : ℕ → Option ℕ → Type 0
Under n None = Unit {0}
Under n (Some p) = p < n

-- every entry of the row is none, or a place below n
abbrev pub Places : ℕ → Row → Type 0
Places n xs = (q : ℕ) → Under n (entry xs q)

-- rounds are run on the row `start` until one changes nothing; c are run, that one counted, and they end with the row `last`
abbrev pub ComesTo : Pick → Table → ℕ → ℕ → Row → Row → ℕ → Type 0
ComesTo pick f k s start last c =
    (m : ℕ) × (c ≡ suc m) × Settled pick f k s start m × ((l : ℕ) → l < m → Settled pick f k s start l → ⊥) × (last ≡ rounds pick f k s start m)
