-- Records of waits: which waits a list of them holds, and whether it holds one twice.
use Rattle.std.specs.Prelude.{◌≡◌, ℕ, ◌/◌, ◌%◌, ◌<◌, Bool, cond, ◌==◌, true, false, not, ◌&&◌, ◌||◌, List, [], ◌∷◌, take, Some, None, Option, slice_index_or}
use Rattle.stores.specs.declared.wait.Wait.{Wait}
use Rattle.stores.specs.Holding.{same_wait}

-- the record of the wait from u to v
abbrev pub wait_of : (u v : ℕ) → Wait
wait_of u v = record { first = u; second = v }

-- whether the record is the wait from u to v
abbrev pub is_wait : Wait → (u v : ℕ) → Bool
is_wait w u v = same_wait w.first w.second u v

-- the place on the shuttle t that the record leads to from u, if it does
abbrev pub led_to : Wait → (u t : ℕ) → Option ℕ
led_to w u t = cond (w.first == u && w.second / 4096 == t) (Some (w.second % 4096)) None

-- whether the wait from u to v is among the records
abbrev pub held_in : List Wait → (u v : ℕ) → Bool
held_in [] u v = false
held_in (w ∷ l) u v = is_wait w u v || held_in l u v

-- whether no wait is among the records twice
abbrev pub single : List Wait → Bool
single [] = true
single (w ∷ l) = not (held_in l w.first w.second) && single l

-- where the wait from u to v stands among the first n records, or none where it does not
abbrev pub Found : List Wait → (n u v : ℕ) → Option ℕ → Type 0
Found records n u v None = held_in (take n records) u v ≡ false
Found records n u v (Some p) = (held_in (take n records) u v ≡ true) × (p < n) × (slice_index_or records p (wait_of 0 0) ≡ wait_of u v)
