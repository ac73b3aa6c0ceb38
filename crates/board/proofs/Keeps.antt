-- What each call says of the waits that stand, from what it does with the table and the store.
use Rattle.std.proofs.Common.{◌≡◌, ℕ, ◌≤◌, Bool, [], Option, Result, ap, subst}
use Rattle.words.specs.declared.Refusal.{Refusal}
use Rattle.tables.specs.Meaning.{Meaning, Lawful, wiped}
use Rattle.stores.specs.Holding.{Holding, emptied}
use Rattle.order.specs.Board.{rows}
use Rattle.order.proofs.Rows.{starts}
use Rattle.questions.specs.declared.rounds.Way.{Way}
use Rattle.questions.specs.Asking.{Asked, Told}
use Rattle.board.specs.Steps.{Placing, Removing}
use Rattle.board.specs.Standing.{Stands, limits, meant, listed, PlaceKeeps, RemoveKeeps, FindsSo, TellsSo}
use Rattle.board.proofs.Answering.{found, tells_before}
use Rattle.board.proofs.Placed.{stands_by, placed_says, circled_says, placed_stands}
use Rattle.board.proofs.Removed.{removed_stands}

pub empty_stands : (m : Meaning) (h : Holding) → Lawful m → (m' : Meaning) (h' : Holding) → m' ≡ wiped m → h' ≡ emptied h → Stands (limits m h) [] m' h'
empty_stands m h law m' h' e e' =
    stands_by (limits m h) [] m' h' e e'
    (record { small = law.moves_few; apart = λ a c i. absurd i; single = tt; ordered = (rows m.shuttles (λ _. m.moves), starts m.shuttles (λ _. m.moves)) })

pub place_keeps : (m : Meaning) (h : Holding) (u v : ℕ) (r : Result Unit Refusal) (m' : Meaning) (h' : Holding) → Placing m h u v r m' h' → PlaceKeeps m h u v r m' h'
place_keeps m h u v r m' h' p = record {
  at = λ b W st.
      let q : Placing (meant b W) (listed b W) u v r m' h' = subst (λ x. Placing x (listed b W) u v r m' h') st.table (subst (λ y. Placing m y u v r m' h') st.store p) in
      let a = q.answer in
      let says = placed_says b W st.sound u v r a.0 a.1 a.2 in
      (says, circled_says b W st.sound u v r says, placed_stands b W st.sound u v r says m' h' q.table q.store);
}

pub remove_keeps : (m : Meaning) (h : Holding) (u v : ℕ) (r : Result Unit Refusal) (m' : Meaning) (h' : Holding) → m.shuttles ≤ 16 → Removing m h u v r m' h'
    → RemoveKeeps m h u v r m' h'
remove_keeps m h u v r m' h' few p = record {
  at = λ b W st.
      removed_stands b W st.sound u v (subst (λ k. k ≤ 16) (ap (λ x. x.shuttles) st.table) few) r m' h'
      (subst (λ x. Removing x (listed b W) u v r m' h') st.table (subst (λ y. Removing m y u v r m' h') st.store p));
}

pub finds_so : (w : Way) (m : Meaning) (h : Holding) (u t : ℕ) (a : Result (Option ℕ) Refusal) (c : ℕ) → Asked w m u t a c → FindsSo w m h u t a c
finds_so w m h u t a c p = record { at = λ b W st. found b W st.sound w u t a c (subst (λ x. Asked w x u t a c) st.table p) }

pub tells_so : (m : Meaning) (h : Holding) (u v : ℕ) (a : Result Bool Refusal) (c : ℕ) → Told m u v a c → TellsSo m h u v a c
tells_so m h u v a c p = record { at = λ b W st. tells_before b W st.sound u v a c (subst (λ x. Told x u v a c) st.table p) }
