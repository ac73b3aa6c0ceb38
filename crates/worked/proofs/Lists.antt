-- The lists of the cases: each choice is tested by computation, and the laws say that no other list follows the rule.
use Rattle.std.proofs.Common.{◌≡◌, ℕ, zero, suc, ◌<◌, true, List, [], ◌∷◌, length, get_or, replicate, Some, Ok, sym, refl, inl, arith}
use lib.ListN.{get_or-replicate}
use Rattle.words.specs.Codes.{code_of}
use Rattle.tables.specs.Meaning.{Meaning}
use Rattle.tables.specs.Answers.{allowed}
use Rattle.order.specs.Board.{Move, Running}
use Rattle.questions.specs.declared.rounds.Way.TheVariants.{Before as Ahead}
use Rattle.questions.specs.Checks.{move_check}
use Rattle.running.specs.Orders.{moves_of, Lists, Pushes}
use Rattle.running.specs.Calls.{Serves}
use Rattle.running.specs.Progress.{Filled, Counts}
use Rattle.running.proofs.Fills.{Turn, filled_end}
use Rattle.running.proofs.Calls.{list_of, pushed_of}
use Rattle.running.proofs.Reaching.{counts, reaches}
use Rattle.board.specs.Standing.{meant}
use Rattle.board.proofs.Scans.{right_back}
use Rattle.worked.specs.Only.{OnlyListed, OnlyPushed}
use Rattle.worked.specs.Cases.{aisle, chained, codes, listed_moves, pushed_moves}
use Rattle.worked.proofs.Asking.{in_two}
use Rattle.worked.proofs.Standing.{cases_stand}
use Rattle.worked.proofs.Slices.{filled_just}
use Rattle.worked.proofs.Choosing.{takes, written, taken_all}

-- the table of the two waits

abbrev table : Meaning
table = meant aisle chained

serves : Serves table chained
serves = (right_back aisle chained cases_stand.chained_stand, cases_stand.chained_stand.ordered)

-- a slice of nine codes is filled by the shuttles ts
filled_by : (b ts : List ℕ) → length ts ≡ 9 → takes table b (replicate 16 0) ts ≡ true → Filled table b (replicate 9 0) (written (replicate 16 0) (replicate 9 0) 0 ts) (Ok 9)
filled_by b ts n e =
    let r = taken_all table (omega arith) (omega arith) b (replicate 9 0) 9 (omega arith) ts (replicate 16 0) (replicate 9 0) 0 (omega arith) begun e in
    filled_end table b (replicate 9 0) 9 r.0 (written (replicate 16 0) (replicate 9 0) 0 ts) 9 refl (omega arith) refl r.1
  where
    begun : Turn table b 9 (replicate 9 0) (replicate 9 0) (replicate 16 0) 0
    begun = (
      refl,
      refl,
      refl,
      λ W v cl. (
        record { ready = λ p l. absurd (omega arith); counts = λ s i l g. absurd g; counted = λ s i l g. absurd (omega (arith, l, g, get_or-replicate {A = ℕ} 16 s 0 0 (omega (arith, l)))) },
        λ p l. absurd (omega arith),
      ),
    )

-- `list`

abbrev OnlyList : List Move → Type 0
OnlyList L = Lists 3 (λ _. 3) chained L × Running 3 (λ _. 3) chained L × ((M : List Move) → Lists 3 (λ _. 3) chained M → M ≡ L)

listed_is : OnlyList (moves_of (codes listed_moves))
unfolding allowed
listed_is = (list_of table (omega arith) (replicate 9 0) (codes listed_moves) (Ok 9) (filled_by (replicate 16 0) (0 ∷ 0 ∷ 0 ∷ 1 ∷ 1 ∷ 1 ∷ 2 ∷ 2 ∷ 2 ∷ []) refl refl)).writes.4 chained serves

pub list_is : OnlyListed aisle chained (codes listed_moves)
list_is old le = filled_just OnlyList (codes listed_moves) listed_is (λ L h. sym (h.2 (moves_of (codes listed_moves)) listed_is.0)) old le

-- `push`

abbrev OnlyPush : List Move → Type 0
OnlyPush L = Pushes 3 (λ _. 3) chained (2, 0) L × Running 3 (λ _. 3) chained L × ((M : List Move) → Pushes 3 (λ _. 3) chained (2, 0) M → M ≡ L)

-- how many moves of each shuttle are before 2.0, itself among them
abbrev before_2_0 : List ℕ
before_2_0 = 2 ∷ 3 ∷ 1 ∷ replicate 13 0

counts_of : (q : ℕ) → q < 3 → Counts table (code_of 2 0) q (get_or before_2_0 q 0)
unfolding allowed move_check
counts_of zero l = counts table (omega arith) (code_of 2 0) 0 (Ok (Some (code_of 0 1))) 2 (refl, in_two Ahead chained (code_of 2 0) 0 (λ e. omega arith) 0 refl refl refl)
counts_of (suc zero) l = counts table (omega arith) (code_of 2 0) 1 (Ok (Some (code_of 1 2))) 2 (refl, in_two Ahead chained (code_of 2 0) 1 (λ e. omega arith) 0 refl refl refl)
counts_of (suc (suc zero)) l = counts table (omega arith) (code_of 2 0) 2 (Ok (Some (code_of 2 0))) 0 (refl, inl (refl, refl, refl))
counts_of (suc (suc (suc q))) l = absurd (omega arith)

pushed_is : OnlyPush (moves_of (codes pushed_moves))
unfolding allowed move_check
pushed_is =
    (pushed_of table (code_of 2 0) 3 3 refl refl refl before_2_0 (replicate 9 0) (codes pushed_moves) (Ok 9) (reaches table (code_of 2 0) before_2_0 counts_of)
    (filled_by before_2_0 (0 ∷ 0 ∷ 1 ∷ 1 ∷ 1 ∷ 2 ∷ 0 ∷ 2 ∷ 2 ∷ []) refl refl)).writes.4 chained serves

pub push_is : OnlyPushed aisle chained (code_of 2 0) (codes pushed_moves)
unfolding move_check
push_is old le = filled_just OnlyPush (codes pushed_moves) pushed_is (λ L h. sym (h.2 (moves_of (codes pushed_moves)) pushed_is.0)) old le
