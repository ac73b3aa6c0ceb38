-- A loose list is lawful: its records in use, as pairs, are the waits that it holds.
use Rattle.std.specs.Prelude.{◌≡◌, ℕ, ◌≤◌, true, List, [], ◌∷◌, map, length, take, refl}
use Rattle.std.proofs.Common.{arith, sym, ap, ◌∙◌, subst, inl, inr}
use Rattle.std.proofs.lemmas.List.{length-map, length-take-le}
use Rattle.std.proofs.lemmas.Bool.{eqb-true, eq-eqb, and_parts, and_from, or_cases, or_left, or_right, not-true, both_ways}
use Rattle.order.specs.Lists.{In, Earlier}
use Rattle.stores.specs.declared.wait.Wait.{Wait}
use Rattle.stores.specs.Holding.{Lawful}
use Rattle.stores.specs.Waits.{wait_of, is_wait, held_in, single}
use Rattle.stores.specs.Rows.{room}
use Rattle.stores.specs.Loose.{loose_holding}

abbrev pair_of : Wait → ℕ × ℕ
pair_of w = (w.first, w.second)

pub is_wait_is : (w : Wait) (u v : ℕ) → is_wait w u v ≡ true → w ≡ wait_of u v
is_wait_is w u v e =
    let h = and_parts _ _ e in
    let p : w.first ≡ u = eqb-true _ _ h.0 in
    let q : w.second ≡ v = eqb-true _ _ h.1 in
    let same : wait_of w.first w.second ≡ wait_of u v = cc in
    same

is_wait_from : (w : Wait) (u v : ℕ) → pair_of w ≡ (u, v) → is_wait w u v ≡ true
is_wait_from w u v e = and_from _ _ (eq-eqb _ _ (ap (λ x. x.0) e)) (eq-eqb _ _ (ap (λ x. x.1) e))

in_from : (l : List Wait) (u v : ℕ) → held_in l u v ≡ true → In (map pair_of l) (u, v)
in_from [] u v e = both_ways _ refl e
in_from (w ∷ l) u v e = elim (or_cases _ _ e) [ inl h ↦ inl (ap pair_of (is_wait_is w u v h)) | inr h ↦ inr (in_from l u v h) ]

held_from : (l : List Wait) (u v : ℕ) → In (map pair_of l) (u, v) → held_in l u v ≡ true
held_from [] u v h = absurd h
held_from (w ∷ l) u v (inl e) = or_left _ _ (is_wait_from w u v e)
held_from (w ∷ l) u v (inr h) = or_right _ _ (held_from l u v h)

once_from : (l : List Wait) → single l ≡ true → (x : ℕ × ℕ) → Earlier (map pair_of l) x x → ⊥
once_from [] e x h = h
once_from (w ∷ l) e x (inl h) =
    both_ways _ (not-true _ (and_parts _ _ e).0) (held_from l w.first w.second (subst (In (map pair_of l)) (sym h.0) h.1))
once_from (w ∷ l) e x (inr h) = once_from l (and_parts _ _ e).1 x h

pub loose_lawful : (records : List Wait) (count : ℕ) → count ≤ room (length records) → single (take count records) ≡ true → Lawful (loose_holding records count)
loose_lawful records count few once = record {
  waits = map pair_of (take count records);
  waits_held = λ u v. (in_from (take count records) u v, held_from (take count records) u v);
  waits_once = once_from (take count records) once;
  counted = length-map (take count records) pair_of ∙ length-take-le count records (omega arith);
  count_le = few;
  capacity_le = omega arith;
}
