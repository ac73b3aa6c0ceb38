-- What the records of an ordered list are like: the waits in use stand by their first code, and then by their second code.
use Rattle.std.specs.Prelude.{ℕ, suc, Bool, true, false, cond, ◌&&◌, ◌||◌, List, [], ◌∷◌, Some, None, Option, ◌==◌, nat_lt}
use Rattle.stores.specs.declared.wait.Wait.{Wait}
use Rattle.stores.specs.Waits.{is_wait, led_to}

-- whether the record stands before the wait from u to v: its first code is smaller, or that is the same and its second code is smaller
abbrev pub comes_before : Wait → (u v : ℕ) → Bool
comes_before w u v = nat_lt w.first u || (w.first == u && nat_lt w.second v)

-- whether the record stands before each of the records
abbrev pub leads : Wait → List Wait → Bool
leads w [] = true
leads w (x ∷ l) = comes_before w x.first x.second && leads w l

-- whether each record stands before all that follow it; so none stands there twice
abbrev pub ascends : List Wait → Bool
ascends [] = true
ascends (w ∷ l) = leads w l && ascends l

-- the place of the wait from u to v: how many records stand before the first that does not stand before it
abbrev pub place_in : List Wait → (u v : ℕ) → ℕ
place_in [] u v = 0
place_in (w ∷ l) u v = cond (comes_before w u v) (suc (place_in l u v)) 0

-- whether a record that may be missing is the wait from u to v
abbrev pub some_wait : Option Wait → (u v : ℕ) → Bool
some_wait None u v = false
some_wait (Some w) u v = is_wait w u v

-- the place on the shuttle t that a record that may be missing leads to from u, if it does
abbrev pub led_by : Option Wait → (u t : ℕ) → Option ℕ
led_by None u t = None
led_by (Some w) u t = led_to w u t
