-- Written moves as codes, and written calls as calls of a board.
use Rattle.std.specs.Prelude.{◌≡◌, ℕ, ◌<◌, ◌≤◌, min, Ok, Err, Result, nat_lt}
use Rattle.words.specs.declared.Refusal.{Refusal}
use Rattle.words.specs.Refusals.{then, unless}
use Rattle.words.specs.Codes.{code_of}
use Rattle.questions.specs.Checks.{move_check}
use Rattle.runs.specs.declared.calls.Ask.{Ask}
use Rattle.runs.specs.declared.calls.Ask.TheVariants as ask
use Rattle.commands.specs.declared.values.Move.{Move}
use Rattle.commands.specs.declared.values.Request.{Request}
use Rattle.commands.specs.declared.values.Request.TheVariants.{Place, Remove, Before, FirstAfter, LastBefore, List, Push}

-- the code of a move on a board of k shuttles with n moves, or the refusal: its shuttle (1) is checked before its place (2). No board has more than 16 shuttles with 4,096 moves.
abbrev pub coded : (k n : ℕ) → Move → Result ℕ Refusal
coded k n m = then (unless (nat_lt m.shuttle (min k 16)) 1) (then (unless (nat_lt m.place (min n 4096)) 2) (Ok (code_of m.shuttle m.place)))

-- where the move has a code, a board checks that code alike
abbrev pub AsBoard : (k n : ℕ) → Move → Result ℕ Refusal → Type 0
AsBoard k n m r = k ≤ 16 → n ≤ 4096 → m.place < 4096 → r ≡ then (move_check k n (code_of m.shuttle m.place)) (Ok (code_of m.shuttle m.place))

-- a number in 16 bits; a higher one becomes the highest
abbrev pub narrow : ℕ → ℕ
narrow x = min x 65535

-- what the codes of one move, and of two, are made into
abbrev pub with_code : Result ℕ Refusal → (ℕ → Ask) → Result Ask Refusal
with_code (Ok u) f = Ok (f u)
with_code (Err e) f = Err e

abbrev pub with_codes : Result ℕ Refusal → Result ℕ Refusal → (ℕ → ℕ → Ask) → Result Ask Refusal
with_codes (Ok u) r f = with_code r (f u)
with_codes (Err e) r f = Err e

-- the call that is written, on a board of k shuttles with n moves; the first move is checked before the second
abbrev pub asked : (k n : ℕ) → Request → Result Ask Refusal
asked k n (Place a b) = with_codes (coded k n a) (coded k n b) ask.Place
asked k n (Remove a b) = with_codes (coded k n a) (coded k n b) ask.Remove
asked k n (Before a b) = with_codes (coded k n a) (coded k n b) ask.Before
asked k n (FirstAfter a t) = with_code (coded k n a) (λ u. ask.FirstAfter u (narrow t))
asked k n (LastBefore a t) = with_code (coded k n a) (λ u. ask.LastBefore u (narrow t))
asked k n List = Ok ask.List
asked k n (Push a) = with_code (coded k n a) ask.Push
