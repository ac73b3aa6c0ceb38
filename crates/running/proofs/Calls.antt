-- `list` and `push` from what is filled.
use Rattle.std.proofs.Common.{◌≡◌, ℕ, ◌*◌, ◌<◌, ◌≤◌, List, length, get_or, take, replicate, Ok, Err, Result, sym, ap, ◌∙◌, subst, inl, inr, arith}
use Rattle.std.proofs.lemmas.List.{length-map, get_or-replicate, length-take-le}
use Rattle.words.specs.declared.Refusal.{Refusal}
use Rattle.words.specs.Refusals.{passed}
use Rattle.words.specs.Codes.{move_of}
use Rattle.order.specs.Board.{Move, Edges, On, total}
use Rattle.order.proofs.Lists.{reaches_trans}
use Rattle.order.proofs.Ways.{on_before}
use Rattle.order.proofs.Counting.{uniform}
use Rattle.tables.specs.Meaning.{Meaning}
use Rattle.questions.specs.Checks.{move_check}
use Rattle.questions.proofs.Inside.{move_on}
use Rattle.running.specs.Orders.{Chosen, FirstOf, Pushed, Lists, Pushes, moves_of}
use Rattle.running.specs.Calls.{Serves, ListedSo, PushedBy, PushedSo}
use Rattle.running.specs.Progress.{Within, Closed, Bounds, Filled, Reach}
use Rattle.running.proofs.Laws.{one_list, one_push, list_runs, push_runs}

-- the codes that are written
abbrev front : Meaning → List ℕ → List Move
front m new = moves_of (take (m.shuttles * m.moves) new)

length_front : (m : Meaning) (new : List ℕ) → m.shuttles * m.moves ≤ length new → length (front m new) ≡ total m.shuttles (λ _. m.moves)
length_front m new l =
    length-map (take (m.shuttles * m.moves) new) move_of ∙ length-take-le (m.shuttles * m.moves) new l ∙ sym (uniform m.shuttles m.moves)

none_within : (x : Move) → x.0 < 16 → Within (replicate 16 0) x → ⊥
none_within x l w = omega (arith, get_or-replicate {A = ℕ} 16 x.0 0 0 l)

module _ (m : Meaning) (few : m.shuttles ≤ 16) (W : Edges) (v : Serves m W) where
  zero_closed : Closed m.shuttles (λ _. m.moves) W (replicate 16 0)
  zero_closed x y on w p = absurd (none_within x (omega (arith, on.0)) w)

  chosen_of : (P : List Move) (x : Move) → FirstOf m.shuttles (λ _. m.moves) W (Within (replicate 16 0)) P x → Chosen m.shuttles (λ _. m.moves) W P x
  chosen_of P x (inl h) = absurd (none_within x (omega (arith, h.1.0.0.0)) h.0)
  chosen_of P x (inr h) = h.1

module _ (m : Meaning) (W : Edges) (v : Serves m W) (u : Move) (on : On m.shuttles (λ _. m.moves) u) (b : List ℕ) (h : Bounds m.shuttles (λ _. m.moves) W u b) where
  bounds_closed : Closed m.shuttles (λ _. m.moves) W b
  bounds_closed x y onx w p = (h y (on_before m.shuttles (λ _. m.moves) W v.1.0 v.1.1 p onx)).0 (reaches_trans p ((h x onx).1 w))

  taken_of : (P : List Move) (x : Move) → FirstOf m.shuttles (λ _. m.moves) W (Within b) P x → Pushed m.shuttles (λ _. m.moves) W u P x
  taken_of P x (inl g) = inl ((h x g.1.0.0).1 g.0, g.1, λ y l p r. g.2 y l ((h y r.0.0).0 p) r)
  taken_of P x (inr g) = inr ((λ y ony p. g.0 y ony ((h y ony).0 p)), g.1)

pub list_of : (m : Meaning) → m.shuttles ≤ 16 → (old new : List ℕ) (r : Result ℕ Refusal) → Filled m (replicate 16 0) old new r → ListedSo m old new r
list_of m few old new (Err e) h = record { writes = h }
list_of m few old new (Ok c) h = record {
  writes = (h.0, h.1, h.2, h.3, λ W v. let L = lists W v in (L, list_runs m.shuttles (λ _. m.moves) W v.1 (front m new) L, λ M l. one_list m.shuttles (λ _. m.moves) W M (front m new) l L));
}
  where
    lists : (W : Edges) → Serves m W → Lists m.shuttles (λ _. m.moves) W (front m new)
    lists W v = (
      length_front m new (omega (arith, h.1, h.2)),
      λ p l. chosen_of m few W v (take p (front m new)) (get_or (front m new) p (0, 0)) (h.4 W v (zero_closed m few W v) p l),
    )

-- a and b are the sizes that the table told
pub pushed_of : (m : Meaning) (v a b : ℕ) → a ≡ m.shuttles → b ≡ m.moves → passed ≡ move_check a b v → (bs old new : List ℕ) (r : Result ℕ Refusal) → Reach m v bs → Filled m bs old new r
    → PushedSo m v old new r
pushed_of m v a b d e c bs old new r reach h = record { writes = subst (λ x. PushedBy x m v old new r) ok (by r h) }
  where
    ok : passed ≡ move_check m.shuttles m.moves v
    ok = c ∙ ap (λ x. move_check x b v) d ∙ ap (λ y. move_check m.shuttles y v) e

    pushes : (c : ℕ) → Filled m bs old new (Ok c) → (W : Edges) → Serves m W → Pushes m.shuttles (λ _. m.moves) W (move_of v) (front m new)
    pushes c h W s =
        let on = move_on m.shuttles m.moves v ok in
        let bd = reach.bounds ok W s in (
          length_front m new (omega (arith, h.1, h.2)),
          λ p q. taken_of m W s (move_of v) on bs bd (take p (front m new)) (get_or (front m new) p (0, 0)) (h.4 W s (bounds_closed m W s (move_of v) on bs bd) p q),
        )

    by : (r : Result ℕ Refusal) → Filled m bs old new r → PushedBy passed m v old new r
    by (Err e) h = h
    by (Ok c) h = (h.0, h.1, h.2, h.3, λ W s. let L = pushes c h W s in (L, push_runs m.shuttles (λ _. m.moves) W s.1 (move_of v) (front m new) L, λ M l. one_push m.shuttles (λ _. m.moves) W (move_of v) M (front m new) l L))
