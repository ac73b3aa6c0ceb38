-- An ordered list is lawful: records in order hold no wait twice.
use Rattle.std.specs.Prelude.{◌≡◌, ℕ, ◌≤◌, true, false, List, [], ◌∷◌, length, take, refl}
use Rattle.std.proofs.Common.{arith, subst, inl, inr}
use Rattle.std.proofs.lemmas.Bool.{and_parts, and_from, and_right, or_from, not_from_false, le-ltb, both_ways, cases_Bool}
use Rattle.stores.specs.declared.wait.Wait.{Wait}
use Rattle.stores.specs.Holding.{Lawful}
use Rattle.stores.specs.Waits.{is_wait, held_in, single}
use Rattle.stores.specs.Rows.{room}
use Rattle.stores.specs.Loose.{loose_holding}
use Rattle.stores.specs.LooseLaws.{is_wait_is, loose_lawful}
use Rattle.ordered.specs.Ordered.{comes_before, leads, ascends}

-- one record

pub not_before_itself : (w : Wait) → comes_before w w.first w.second ≡ false
not_before_itself w = or_from _ _ (le-ltb w.first w.first (omega arith)) (and_right _ _ (le-ltb w.second w.second (omega arith)))

pub apart : (w x : Wait) (u v : ℕ) → comes_before w x.first x.second ≡ true → comes_before w u v ≡ false → is_wait x u v ≡ false
apart w x u v after not_after =
    elim (cases_Bool (is_wait x u v)) [
      | inl e ↦ absurd (both_ways _ not_after (subst (λ y. comes_before w y.first y.second ≡ true) (is_wait_is x u v e) after))
      | inr e ↦ e
    ]

-- a wait that the record does not stand before is none of those that it leads
pub not_led : (w : Wait) (l : List Wait) (u v : ℕ) → leads w l ≡ true → comes_before w u v ≡ false → held_in l u v ≡ false
not_led w [] u v led not_after = refl
not_led w (x ∷ l) u v led not_after =
    let o = and_parts _ _ led in
    or_from _ _ (apart w x u v o.0 not_after) (not_led w l u v o.1 not_after)

pub single_from : (l : List Wait) → ascends l ≡ true → single l ≡ true
single_from [] up = refl
single_from (w ∷ l) up =
    let o = and_parts _ _ up in
    and_from _ _ (not_from_false _ (not_led w l w.first w.second o.0 (not_before_itself w))) (single_from l o.1)

pub ordered_lawful : (records : List Wait) (count : ℕ) → count ≤ room (length records) → ascends (take count records) ≡ true → Lawful (loose_holding records count)
ordered_lawful records count few up = loose_lawful records count few (single_from (take count records) up)
