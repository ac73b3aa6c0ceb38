-- Lists, pushes and tests, where the waits stand.
use Rattle.std.proofs.Common.{◌≡◌, ℕ, ◌*◌, Bool, List, Ok, Err, Result, subst}
use Rattle.words.specs.declared.Refusal.{Refusal}
use Rattle.tables.specs.Meaning.{Meaning}
use Rattle.stores.specs.Holding.{Holding}
use Rattle.words.specs.Codes.{move_of}
use Rattle.order.specs.Board.{Move, Running}
use Rattle.questions.specs.Checks.{move_check}
use Rattle.running.specs.Orders.{Lists, Pushes}
use Rattle.running.specs.Calls.{Serves, Fills, ListedSo, PushedSo, TestsSo, PushedBy as PushedOver}
use Rattle.board.specs.Standing.{Limits, Waits, Sound, lengths, meant, PushedBy, ListsAt, PushesAt, TestsAt}
use Rattle.board.proofs.Scans.{right_back}

-- what holds of the codes for all waits that the table answers for holds for those that stand
fills_at : (c : ℕ) (S : Waits → Type 0) (C : Waits → List Move → Type 0) (W : Waits) → S W → (old new : List ℕ) (r : Result ℕ Refusal)
    → Fills c (λ L. (V : Waits) → S V → C V L) old new r → Fills c (C W) old new r
fills_at c S C W s old new (Ok r) w = (w.0, w.1, w.2, w.3, w.4 W s)
fills_at c S C W s old new (Err e) w = w

abbrev OnlyList : Limits → Waits → List Move → Type 0
OnlyList b V L =
    Lists b.shuttles (lengths b) V L × Running b.shuttles (lengths b) V L × ((M : List Move) → Lists b.shuttles (lengths b) V M → M ≡ L)

abbrev OnlyPush : Limits → ℕ → Waits → List Move → Type 0
OnlyPush b v V L =
    Pushes b.shuttles (lengths b) V (move_of v) L × Running b.shuttles (lengths b) V L × ((M : List Move) → Pushes b.shuttles (lengths b) V (move_of v) M → M ≡ L)

serves : (b : Limits) (W : Waits) → Sound b W → Serves (meant b W) W
serves b W h = (right_back b W h, h.ordered)

pub lists_at : (m : Meaning) (h : Holding) (old new : List ℕ) (r : Result ℕ Refusal) → ListedSo m old new r → ListsAt m h old new r
lists_at m h old new r p = record { at = λ b W st. fills_at (b.shuttles * b.moves) (Serves (meant b W)) (OnlyList b) W (serves b W st.sound) old new r (subst (λ x. ListedSo x old new r) st.table p).writes }

pushed_at : (b : Limits) (W : Waits) → Sound b W → (v : ℕ) (old new : List ℕ) (r : Result ℕ Refusal) (q : Result Unit Refusal) → PushedOver q (meant b W) v old new r → PushedBy q b W v old new r
pushed_at b W h v old new r (Ok x) p = fills_at (b.shuttles * b.moves) (Serves (meant b W)) (OnlyPush b v) W (serves b W h) old new r p
pushed_at b W h v old new r (Err e) p = p

pub pushes_at : (m : Meaning) (h : Holding) (v : ℕ) (old new : List ℕ) (r : Result ℕ Refusal) → PushedSo m v old new r → PushesAt m h v old new r
pushes_at m h v old new r p = record {
  at = λ b W st.
      pushed_at b W st.sound v old new r (move_check b.shuttles b.moves v) (subst (λ x. PushedSo x v old new r) st.table p).writes;
}

pub tests_at : (m : Meaning) (h : Holding) (codes : List ℕ) (y : Bool) → TestsSo m codes y → TestsAt m h codes y
tests_at m h codes y p = record { at = λ b W st. (subst (λ x. TestsSo x codes y) st.table p).decides W (serves b W st.sound) }
