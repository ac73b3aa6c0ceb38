-- The worked cases, one by one.
use Rattle.std.proofs.Common.{ℕ, Bool, true, false, [], Some, None, Ok, Option, Result, refl, inl, arith}
use Rattle.words.specs.declared.Refusal.{Refusal}
use Rattle.words.specs.Refusals.{passed, refused}
use Rattle.words.specs.Codes.{code_of}
use Rattle.tables.specs.Meaning.{filled_of}
use Rattle.tables.specs.Answers.{allowed}
use Rattle.questions.specs.declared.rounds.Way.{Way}
use Rattle.questions.specs.declared.rounds.Way.TheVariants.{After, Before as Ahead}
use Rattle.questions.specs.Checks.{move_check}
use Rattle.questions.specs.Asking.{Asked, Told}
use Rattle.board.specs.Standing.{Waits, Sound, meant, Placed}
use Rattle.board.proofs.Placed.{placed_says}
use Rattle.board.proofs.Answering.{found, tells_before}
use Rattle.board.proofs.Unique.{one_found, one_told, one_placed}
use Rattle.worked.specs.Only.{OnlyFound, OnlyTold, OnlyPlaced}
use Rattle.worked.specs.Cases.{aisle, chained, WorkedCases}
use Rattle.worked.proofs.Asking.{in_one, in_two}
use Rattle.worked.proofs.Standing.{closes, cases_stand}
use Rattle.worked.proofs.Lists.{list_is, push_is}

-- what the table answers is the only answer

only_found : (W : Waits) → Sound aisle W → (w : Way) (u t : ℕ) (o : Option ℕ) (c : ℕ) → Asked w (meant aisle W) u t (Ok o) c → OnlyFound w aisle W u t o c
only_found W h w u t o c g = let f = found aisle W h w u t (Ok o) c g in (f, λ r d e. one_found aisle W w u t r (Ok o) d c e f)

only_told : (W : Waits) → Sound aisle W → (u v : ℕ) (y : Bool) (c : ℕ) → Told (meant aisle W) u v (Ok y) c → OnlyTold aisle W u v y c
only_told W h u v y c g = let f = tells_before aisle W h u v (Ok y) c g in (f, λ r d e. one_told aisle W u v r (Ok y) d c e f)

only_placed : (W : Waits) (u v : ℕ) (a : Result Unit Refusal) → Placed aisle W u v a → OnlyPlaced aisle W u v a
only_placed W u v a p = (p, λ r q. one_placed aisle W u v r a q p)

pub worked : WorkedCases
unfolding allowed move_check filled_of
worked =
    let h = cases_stand.chained_stand in
    let none = cases_stand.none_stand in
    record {
      first_after_found = only_found chained h After (code_of 0 0) 2 (Some (code_of 2 0)) 2 (refl, in_two After chained (code_of 0 0) 2 (λ e. omega arith) 2 refl refl refl);
      first_after_none = only_found chained h After (code_of 0 2) 2 None 1 (refl, in_one After chained (code_of 0 2) 2 (λ e. omega arith) refl);
      last_before_found = only_found chained h Ahead (code_of 2 2) 0 (Some (code_of 0 1)) 2 (refl, in_two Ahead chained (code_of 2 2) 0 (λ e. omega arith) 0 refl refl refl);
      circle_refused =
          only_placed chained (code_of 2 0) (code_of 0 1) (refused 6)
          (placed_says aisle chained h (code_of 2 0) (code_of 0 1) (refused 6) true
          (λ _. closes chained (code_of 2 0) (code_of 0 1) refl (Some (code_of 2 0)) 2 (in_two After chained (code_of 0 1) 2 (λ e. omega arith) 2 refl refl refl)) refl);
      no_circle_done =
          only_placed chained (code_of 2 0) (code_of 0 2) passed
          (placed_says aisle chained h (code_of 2 0) (code_of 0 2) passed false
          (λ _. closes chained (code_of 2 0) (code_of 0 2) refl None 1 (in_one After chained (code_of 0 2) 2 (λ e. omega arith) refl)) refl);
      list_given = list_is;
      push_given = push_is;
      other_shuttle_not_before = only_told [] none (code_of 0 0) (code_of 1 0) false 1 (refl, (None, in_one After [] (code_of 0 0) 1 (λ e. omega arith) refl, refl));
      own_shuttle_before = only_told [] none (code_of 0 0) (code_of 0 2) true 0 (refl, (Some (code_of 0 0), inl (refl, refl, refl), refl));
      cell_of_both = refl;
      cell_of_one_left = (refl, refl);
      least_and_last = (refl, refl, refl, refl);
      last_of_four = refl;
      least_of_two = refl;
    }
