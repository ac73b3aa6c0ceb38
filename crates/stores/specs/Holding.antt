-- What a store means: which waits it holds, by the codes of their moves, how many they are, and how many it can hold.
use Rattle.std.specs.Prelude.{◌≡◌, ℕ, suc, pred, ◌<◌, ◌≤◌, Bool, true, false, not, ◌&&◌, ◌||◌, ◌↔◌, List, length, Some, None, Option, Result, ◌==◌, nat_lt}
use Rattle.words.specs.declared.Refusal.{Refusal}
use Rattle.words.specs.Refusals.{then, unless, refused_if, if_done}
use Rattle.words.specs.Codes.{code_of}
use Rattle.order.specs.Lists.{In, Earlier}

pub record Holding : Type 0 where
  pub held : ℕ → ℕ → Bool
  pub count : ℕ
  pub capacity : ℕ

-- what holds of every store: the count is the size of the set, as a list that has just the waits held, and none of them twice, shows;
-- the set is no larger than the capacity, and that is at most 65,535
pub record Lawful (h : Holding) : Type 0 where
  pub waits : List (ℕ × ℕ)
  pub waits_held : (u v : ℕ) → (h.held u v ≡ true) ↔ In waits (u, v)
  pub waits_once : (w : ℕ × ℕ) → Earlier waits w w → ⊥
  pub counted : length waits ≡ h.count
  pub count_le : h.count ≤ h.capacity
  pub capacity_le : h.capacity ≤ 65535

abbrev pub same_wait : (u v a b : ℕ) → Bool
same_wait u v a b = u == a && v == b

-- with one wait more
abbrev pub with_wait : Holding → (u v : ℕ) → Holding
with_wait h u v = record { held = λ a b. same_wait u v a b || h.held a b; count = suc h.count; capacity = h.capacity }

-- with one wait less
abbrev pub less_wait : Holding → (u v : ℕ) → Holding
less_wait h u v = record { held = λ a b. not (same_wait u v a b) && h.held a b; count = pred h.count; capacity = h.capacity }

-- with no wait
abbrev pub emptied : Holding → Holding
emptied h = record { held = λ a b. false; count = 0; capacity = h.capacity }

-- refused with 4 where the wait is held
abbrev pub not_held : Holding → (u v : ℕ) → Result Unit Refusal
not_held h u v = refused_if (h.held u v) 4

-- refused with 7 where the store is full
abbrev pub not_full : Holding → Result Unit Refusal
not_full h = unless (nat_lt h.count h.capacity) 7

abbrev pub add_answer : Holding → (u v : ℕ) → Result Unit Refusal
add_answer h u v = then (not_held h u v) (not_full h)

abbrev pub add_after : Holding → (u v : ℕ) → Holding
add_after h u v = if_done (add_answer h u v) h (with_wait h u v)

-- refused with 5 where the wait is not held
abbrev pub remove_answer : Holding → (u v : ℕ) → Result Unit Refusal
remove_answer h u v = unless (h.held u v) 5

abbrev pub remove_after : Holding → (u v : ℕ) → Holding
remove_after h u v = if_done (remove_answer h u v) h (less_wait h u v)

-- the smallest j for which the wait from u to t.j is held, or none; none for every t above 15
abbrev pub Earliest : Holding → (u t : ℕ) → Option ℕ → Type 0
Earliest h u t None = t < 16 → (j : ℕ) → j < 4096 → h.held u (code_of t j) ≡ false
Earliest h u t (Some j) = (t < 16) × (j < 4096) × (h.held u (code_of t j) ≡ true) × ((b : ℕ) → b < j → h.held u (code_of t b) ≡ false)
