-- What it says that the numbers of a call are taken.
use Rattle.std.proofs.Common.{◌≡◌, ℕ, ◌/◌, ◌%◌, ◌<◌, ltb, ap, ◌∙◌}
use Rattle.std.proofs.lemmas.Bool.{ltb-true, eqb-false}
use Rattle.words.specs.Refusals.{passed, unless}
use Rattle.words.specs.Codes.{move_of}
use Rattle.words.proofs.Checks.{then_first, then_second, unless_passed, refused_if_passed}
use Rattle.order.specs.Board.{On}
use Rattle.questions.specs.Checks.{shuttle_check, move_check, moves_check, wait_check, question_check}

pub move_on : (k n u : ℕ) → passed ≡ move_check k n u → On k (λ _. n) (move_of u)
unfolding move_check
move_on k n u e = (
  ltb-true (u / 4096) k (unless_passed _ 1 (then_first (shuttle_check k (u / 4096)) (unless (ltb (u % 4096) n) 2) tt e)),
  ltb-true (u % 4096) n (unless_passed _ 2 (then_second (shuttle_check k (u / 4096)) (unless (ltb (u % 4096) n) 2) tt e)),
)

-- u and v are moves of k shuttles with n moves each
pub moves_on : (k n u v : ℕ) → passed ≡ moves_check k n u v → On k (λ _. n) (move_of u) × On k (λ _. n) (move_of v)
moves_on k n u v e = (move_on k n u (then_first (move_check k n u) _ tt e), move_on k n v (then_second (move_check k n u) _ tt e))

-- u and v are moves of different shuttles
pub record Waiting (k n u v : ℕ) : Type 0 where
  pub from : On k (λ _. n) (move_of u)
  pub to : On k (λ _. n) (move_of v)
  pub apart : u / 4096 ≡ v / 4096 → ⊥

pub wait_waiting : (k n u v : ℕ) → passed ≡ wait_check k n u v → Waiting k n u v
wait_waiting k n u v e =
    let on = moves_on k n u v (then_first (moves_check k n u v) _ tt e) in
    record {
      from = on.0;
      to = on.1;
      apart = eqb-false (u / 4096) (v / 4096) (refused_if_passed _ 3 (then_second (moves_check k n u v) _ tt e));
    }

pub question_on : (k n u t : ℕ) → passed ≡ question_check k n u t → On k (λ _. n) (move_of u) × (t < k)
question_on k n u t e = (
  move_on k n u (then_first (move_check k n u) _ tt e),
  ltb-true t k (unless_passed _ 1 (then_second (move_check k n u) _ tt e)),
)

-- the same of sizes that a table told
pub moves_checked : (k n a b u v : ℕ) → a ≡ k → b ≡ n → passed ≡ moves_check a b u v → (passed ≡ move_check k n u) × (v / 4096 < k)
moves_checked k n a b u v e d h =
    let g : passed ≡ moves_check k n u v = h ∙ ap (λ x. moves_check x b u v) e ∙ ap (λ y. moves_check k y u v) d in
    (then_first (move_check k n u) _ tt g, (moves_on k n u v g).1.0)
