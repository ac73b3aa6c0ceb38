-- The records of a row, as one more and one less come into use.
use Rattle.std.specs.Prelude.{ℕ, ◌+◌, ◌-◌, min, List, ◌++◌, take, drop}
use Rattle.std.specs.List.{insert, remove}
use Rattle.stores.specs.declared.wait.Wait.{Wait}

-- how many waits a list over so many records can hold
abbrev pub room : ℕ → ℕ
room n = min n 65535

-- the records with one more in use than n: it is put in at the place p, those of the n from there on stand one place later, and the records behind are as they were
abbrev pub put_in : List Wait → (n p : ℕ) → Wait → List Wait
put_in records n p w = insert (take n records) p w ++ drop (n + 1) records

-- the records with one less in use than n: the one at the place p is taken out, those of the n behind it stand one place earlier,
-- and the last of the n, which is now free, is as it was, as are the records behind
abbrev pub taken_out : List Wait → (n p : ℕ) → List Wait
taken_out records n p = remove (take n records) p ++ drop (n - 1) records
