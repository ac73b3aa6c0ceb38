-- The codes that are tested, one after the other.
use Rattle.std.proofs.Common.{◌≡◌, ℕ, ◌+◌, ◌*◌, ◌/◌, ◌%◌, ◌<◌, ◌≤◌, List, length, get_or, take, set, sym, ◌∙◌, subst, arith, take_all}
use Rattle.std.proofs.lemmas.List.{map_more, get_or-map, take-map, length-map}
use Rattle.order.specs.Board.{Edges, Running}
use Rattle.order.proofs.Counting.{counted, uniform}
use Rattle.running.specs.Orders.{Ready, EachBy, moves_of}
use Rattle.words.specs.Codes.{move_of}
use Rattle.tables.specs.Meaning.{Meaning}
use Rattle.running.specs.Calls.{Serves}
use Rattle.running.specs.Progress.{Follows}
use Rattle.running.proofs.Laws.{ready_runs, running_ready}
use Rattle.running.proofs.States.{State, ready_iff, state_more}

module _ (m : Meaning) (W : Edges) (v : Serves m W) (few : m.shuttles ≤ 16) (codes d : List ℕ) where
  pub test_more : (p : ℕ) → length d ≡ 16 → p < length codes → State m W (moves_of (take p codes)) d → Follows m d (move_of (get_or codes p 0))
      → State m W (moves_of (take (p + 1) codes)) (set d (get_or codes p 0 / 4096) (get_or codes p 0 % 4096 + 1))
  test_more p len l st f =
      subst (λ P. State m W P (set d (get_or codes p 0 / 4096) (get_or codes p 0 % 4096 + 1))) (sym (map_more move_of codes p 0 l))
      (state_more m W v (moves_of (take p codes)) d st len few (move_of (get_or codes p 0)) f)

  pub test_stops : (p : ℕ) → p < length codes → State m W (moves_of (take p codes)) d → (Follows m d (move_of (get_or codes p 0)) → ⊥)
      → Running m.shuttles (λ _. m.moves) W (moves_of codes) → ⊥
  test_stops p l st no' R =
      let h = running_ready m.shuttles (λ _. m.moves) W (moves_of codes) R p (omega (arith, length-map codes move_of)) in
      no' ((ready_iff m W v (moves_of (take p codes)) d st (move_of (get_or codes p 0))).0
      (subst (λ P. Ready m.shuttles (λ _. m.moves) W P (move_of (get_or codes p 0))) (take-map move_of p codes)
      (subst (Ready m.shuttles (λ _. m.moves) W (take p (moves_of codes))) (get_or-map move_of codes p 0 (0, 0) l) h)))

  pub test_ends : (p : ℕ) → length codes ≤ p → length codes ≡ m.shuttles * m.moves → State m W (moves_of (take p codes)) d → Running m.shuttles (λ _. m.moves) W (moves_of codes)
  test_ends p l e st =
      ready_runs m.shuttles (λ _. m.moves) W (moves_of codes) (subst (λ c. EachBy (Ready m.shuttles (λ _. m.moves) W) (moves_of c)) (take_all p codes l) st.ready) v.1
      (length-map codes move_of ∙ e ∙ sym (uniform m.shuttles m.moves))

  pub test_long : (length codes ≡ m.shuttles * m.moves → ⊥) → Running m.shuttles (λ _. m.moves) W (moves_of codes) → ⊥
  test_long ne R = ne (sym (length-map codes move_of) ∙ counted m.shuttles (λ _. m.moves) W (moves_of codes) R ∙ uniform m.shuttles m.moves)
