-- The first records of a list that is not in order: what they hold after each step of the loose list's code.
use Rattle.std.proofs.Common.{◌≡◌, ℕ, suc, pred, ◌+◌, ◌<◌, ◌≤◌, Bool, true, false, not, ◌&&◌, List, [], ◌∷◌, ◌++◌, length, get_or, take, set, sym, ap, ◌∙◌, ⊎_elim, arith}
use mathlib.Core.Path.{fun_ext}
use lib.Seq.{take-set-lt}
use Rattle.std.proofs.lemmas.List.{length-set, length-take-le, take_more, take_more_set, take-set, get_or-take}
use Rattle.std.proofs.lemmas.Bool.{cases_lt}
use Rattle.stores.specs.declared.wait.Wait.{Wait}
use Rattle.stores.specs.Holding.{Holding, with_wait, less_wait}
use Rattle.stores.specs.Waits.{wait_of, is_wait, held_in, single}
use Rattle.stores.specs.Rows.{room}
use Rattle.stores.specs.Loose.{loose_holding}
use Rattle.stores.proofs.Waits.{held_push, single_push, single_pop, single_set, held_moved, held_dropped}

pub same_holding : (f g : ℕ → ℕ → Bool) (c d m n : ℕ) → ((a b : ℕ) → f a b ≡ g a b) → c ≡ d → m ≡ n
    → ◌≡◌ {A = Holding} (record { held = f; count = c; capacity = m }) (record { held = g; count = d; capacity = n })
same_holding f g c d m n same counts sizes = let e : f ≡ g = fun_ext (λ a. fun_ext (λ b. same a b)) in cc

-- one wait more

module _ (records : List Wait) (n u v : ℕ) (l : n < length records) where
  pub added_single : single (take n records) ≡ true → held_in (take n records) u v ≡ false → single (take (n + 1) (set records n (wait_of u v))) ≡ true
  added_single once new = ap single (take_more_set records n (wait_of u v) l) ∙ single_push (take n records) (wait_of u v) once new

  pub added_holding : loose_holding (set records n (wait_of u v)) (n + 1) ≡ with_wait (loose_holding records n) u v
  added_holding =
      same_holding _ _ (n + 1) (suc n) _ _
      (λ a b. ap (λ k. held_in k a b) (take_more_set records n (wait_of u v) l) ∙ held_push (take n records) (wait_of u v) a b)
      (omega arith)
      (ap room (length-set records n (wait_of u v)))

-- one wait less: the last of the records in use goes to the place p

module _ (records : List Wait) (d : Wait) (count n p : ℕ) (last : count ≡ n + 1) (fit : count ≤ length records) (in' : p < count) (once : single (take count records) ≡ true) where
  one_more : take count records ≡ take n records ++ get_or records n d ∷ []
  one_more = ap (λ m. take m records) last ∙ take_more records n d (omega arith)

  few : length (take n records) ≡ n
  few = length-take-le n records (omega arith)

  -- either the last record goes into an earlier place, or it is itself the one that goes
  kept : p < n → take n (set records p (get_or records n d)) ≡ set (take n records) p (get_or records n d)
  kept less = take-set-lt n records p (get_or records n d) less

  same : p ≡ n → take n (set records p (get_or records n d)) ≡ take n records
  same e = rw e (take-set records n (get_or records n d))

  once_more : single (take n records ++ get_or records n d ∷ []) ≡ true
  once_more = sym (ap single one_more) ∙ once

  pub removed_single : single (take n (set records p (get_or records n d))) ≡ true
  removed_single =
      let o = single_pop (take n records) (get_or records n d) once_more in
      ⊎_elim
      (λ (less : p < n). ap single (kept less) ∙ single_set (take n records) p (get_or records n d) (omega (arith, few)) o.0 o.1)
      (λ (more : n ≤ p). ap single (same (omega arith)) ∙ o.0)
      (cases_lt p n)

  gone : (a b : ℕ) → held_in (take n (set records p (get_or records n d))) a b ≡ (not (is_wait (get_or records p d) a b) && held_in (take n records ++ get_or records n d ∷ []) a b)
  gone a b =
      ⊎_elim
      (λ (less : p < n).
      ap (λ k. held_in k a b) (kept less)
      ∙ held_moved (take n records) (get_or records n d) once_more a b p d (omega (arith, few))
      ∙ ap (λ x. not (is_wait x a b) && held_in (take n records ++ get_or records n d ∷ []) a b) (get_or-take n records p d less))
      (λ (more : n ≤ p).
      let e : p ≡ n = omega arith in
      ap (λ k. held_in k a b) (same e)
      ∙ held_dropped (take n records) (get_or records n d) once_more a b
      ∙ ap (λ q. not (is_wait (get_or records q d) a b) && held_in (take n records ++ get_or records n d ∷ []) a b) (sym e))
      (cases_lt p n)

  pub removed_holding : (u v : ℕ) → get_or records p d ≡ wait_of u v → loose_holding (set records p (get_or records n d)) n ≡ less_wait (loose_holding records count) u v
  removed_holding u v at =
      same_holding _ _ n (pred count) _ _
      (λ a b. gone a b ∙ ap (λ k. not (is_wait (get_or records p d) a b) && held_in k a b) (sym one_more) ∙ ap (λ x. not (is_wait x a b) && held_in (take count records) a b) at)
      (omega arith)
      (ap room (length-set records p (get_or records n d)))
