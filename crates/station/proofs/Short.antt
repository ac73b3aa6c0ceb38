-- A line of the report has at most 24 bytes.
use Rattle.std.proofs.Common.{ℕ, ◌/◌, ◌%◌, ◌<◌, ◌≤◌, Bool, List, length, Some, None, Ok, Err, decimal, Option, Result, sym, subst, arith, length-append}
use Rattle.std.proofs.lemmas.Fmt.{length-decimal-le}
use Rattle.words.specs.declared.Refusal.{Refusal}
use Rattle.words.specs.declared.Refusal.TheVariants.{NoSuchShuttle, NoSuchPlace, SameShuttle, AlreadyHeld, NotHeld, Circle, StoreFull, TableFull, TooShort, BadForm, BadSize, NoSuchKind}
use Rattle.words.specs.Refusals.{number_of}
use Rattle.words.specs.Codes.{move_of}
use Rattle.order.specs.Board.{On}
use Rattle.order.proofs.Ways.{on_after, on_before}
use Rattle.questions.specs.declared.rounds.Way.{Way}
use Rattle.questions.specs.declared.rounds.Way.TheVariants.{After, Before as Ahead}
use Rattle.questions.specs.Asking.{coded}
use Rattle.questions.proofs.Inside.{question_on}
use Rattle.board.specs.Standing.{Limits, Waits, Sound, lengths, Nearest, Found, Tells, remove_gives}
use Rattle.runs.specs.declared.calls.Ask.{Ask}
use Rattle.runs.specs.declared.calls.Ask.TheVariants.{Place, Remove, Before as IsBefore, FirstAfter, LastBefore, List as ListMoves, Push as PushMove, Test as TestOrder}
use Rattle.runs.specs.declared.calls.Answer.TheVariants.{Done, Truth, Found as Found_at, Listed, Tested}
use Rattle.runs.specs.Law.{Outcome, Answered, done_answer, truth_answer, found_answer, count_answer}
use Rattle.station.specs.Report.{returned_number, finding_text, line, first_line}

number_small : (e : Refusal) → number_of e < 100
number_small NoSuchShuttle = omega arith
number_small NoSuchPlace = omega arith
number_small SameShuttle = omega arith
number_small AlreadyHeld = omega arith
number_small NotHeld = omega arith
number_small Circle = omega arith
number_small StoreFull = omega arith
number_small TableFull = omega arith
number_small TooShort = omega arith
number_small BadForm = omega arith
number_small BadSize = omega arith
number_small NoSuchKind = omega arith

returned_small : (a : Outcome) → returned_number a < 100
returned_small (Ok a) = omega arith
returned_small (Err e) = number_small e

two_digits : (n : ℕ) → n < 100 → length (decimal n) ≤ 2
two_digits n l = length-decimal-le 2 n (omega arith) (omega arith) (omega arith)

four_digits : (n : ℕ) → n < 10000 → length (decimal n) ≤ 4
four_digits n l = length-decimal-le 4 n (omega arith) (omega arith) (omega arith)

five_digits : (n : ℕ) → n < 65536 → length (decimal n) ≤ 5
five_digits n l = length-decimal-le 5 n (omega arith) (omega arith) (omega arith)

-- the answer holds a 16-bit code, and fewer than 100 rounds
abbrev pub Small : Outcome → Type 0
Small (Ok Done) = Unit {0}
Small (Ok (Truth y c)) = c < 100
Small (Ok (Found_at None c)) = c < 100
Small (Ok (Found_at (Some u) c)) = (u < 65536) × (c < 100)
Small (Ok (Listed n)) = Unit {0}
Small (Ok (Tested y)) = Unit {0}
Small (Err e) = Unit {0}

finding_short : (a : Outcome) → Small a → length (finding_text a) ≤ 16
finding_short (Ok Done) s = omega arith
finding_short (Ok (Truth y c)) s = omega (arith, two_digits c s)
finding_short (Ok (Found_at None c)) s = omega (arith, two_digits c s)
finding_short (Ok (Found_at (Some u) c)) s =
    simp length-append (omega (arith, two_digits c s.1, two_digits (u / 4096) (omega (arith, s.0)), four_digits (u % 4096) (omega arith)))
finding_short (Ok (Listed n)) s = omega arith
finding_short (Ok (Tested y)) s = omega arith
finding_short (Err e) s = omega arith

pub line_short : (i : ℕ) (a : Outcome) → i < 10000 → Small a → length (line i a) ≤ 24
line_short i a l s = simp length-append (omega (arith, four_digits i l, two_digits (returned_number a) (returned_small a), finding_short a s))

pub first_line_short : (k n c : ℕ) → k < 65536 → n < 65536 → c < 65536 → length (first_line k n c) ≤ 24
first_line_short k n c lk ln lc = simp length-append (omega (arith, five_digits k lk, five_digits n ln, five_digits c lc))

-- what a board answers is small

module _ (b : Limits) (W : Waits) (h : Sound b W) (few : b.shuttles ≤ 16) where
  done_small : (r : Result Unit Refusal) → Small (done_answer r)
  done_small (Ok x) = tt
  done_small (Err e) = tt

  count_small : (r : Result ℕ Refusal) → Small (count_answer r)
  count_small (Ok n) = tt
  count_small (Err e) = tt

  truth_small : (u v : ℕ) (r : Result Bool Refusal) (c : ℕ) → Tells b W u v r c → Small (truth_answer r c)
  truth_small u v (Ok y) c t = omega (arith, t.3.1)
  truth_small u v (Err e) c t = tt

  nearest_on : (w : Way) (u t p : ℕ) → On b.shuttles (lengths b) (move_of u) → Nearest w b W (move_of u) t (Some p) → On b.shuttles (lengths b) (t, p)
  nearest_on After u t p on x = on_after b.shuttles (lengths b) W h.ordered.0 h.ordered.1 x.0 on
  nearest_on Ahead u t p on x = on_before b.shuttles (lengths b) W h.ordered.0 h.ordered.1 x.0 on

  coded_small : (w : Way) (u t c : ℕ) → On b.shuttles (lengths b) (move_of u) → (p : Option ℕ) → Nearest w b W (move_of u) t p → c < b.shuttles → Small (Ok (Found_at (coded t p) c))
  coded_small w u t c on None x l = omega arith
  coded_small w u t c on (Some p) x l = let o = nearest_on w u t p on x in let s = h.small in (omega (arith, o.0, o.1), omega arith)

  found_small : (w : Way) (u t : ℕ) (r : Result (Option ℕ) Refusal) (c : ℕ) → Found w b W u t r c → Small (found_answer r c)
  found_small w u t (Ok o) c f =
      let on = question_on b.shuttles b.moves u t f.0 in
      subst (λ x. Small (Ok (Found_at x c))) (sym f.1.1) (coded_small w u t c on.0 f.1.0 f.1.2 f.2.1)
  found_small w u t (Err e) c f = tt

  pub answered_small : (q : Ask) (old : List ℕ) (a : Outcome) (new : List ℕ) → Answered b W q old a new → Small a
  answered_small (Place u v) old a new x = subst Small (sym x.0.1) (done_small x.0.0)
  answered_small (Remove u v) old a new x = subst Small (sym x.0) (done_small (remove_gives b W u v))
  answered_small (IsBefore u v) old a new x = subst Small (sym x.0.2) (truth_small u v x.0.0 x.0.1 x.0.3)
  answered_small (FirstAfter u t) old a new x = subst Small (sym x.0.2) (found_small After u t x.0.0 x.0.1 x.0.3)
  answered_small (LastBefore u t) old a new x = subst Small (sym x.0.2) (found_small Ahead u t x.0.0 x.0.1 x.0.3)
  answered_small ListMoves old a new x = subst Small (sym x.1) (count_small x.0)
  answered_small (PushMove v) old a new x = subst Small (sym x.1) (count_small x.0)
  answered_small TestOrder old a new x = subst Small (sym x.0.1) tt
