-- Records of a row that are copied one place up or down: as what is put in, and taken out.
use Rattle.std.proofs.Common.{◌≡◌, ℕ, ◌+◌, ◌-◌, ◌<◌, ◌≤◌, List, length, take, drop, set, arith}
use Rattle.std.specs.List.{insert, remove, CopiedTo, SameBelow, SameFrom}
use Rattle.std.proofs.lemmas.List.{places, length-set, length-append, length-drop, length-take-le, get_or-set_same, get_or-set_other, ext_get_or}
use Rattle.std.proofs.lemmas.List.Edits.{length-insert, length-remove, get_or-remove_below, get_or-remove_above}
use Rattle.std.proofs.lemmas.Bool.{cases_order, cases_lt}
use Rattle.stores.specs.declared.wait.Wait.{Wait}
use Rattle.stores.specs.Waits.{wait_of}
use Rattle.stores.specs.Rows.{put_in, taken_out}

-- records moved up, and one written into the gap

module _ (records : List Wait) (n p : ℕ) (w : Wait) (within : p ≤ n) (free : n < length records) where
  used : length (take n records) ≡ n
  used = length-take-le n records (omega arith)

  pub put_in_used : length (insert (take n records) p w) ≡ n + 1
  put_in_used = let s = used in omega (arith, length-insert (take n records) p w (omega arith))

  pub length_put_in : length (put_in records n p w) ≡ length records
  length_put_in =
      let s = put_in_used in
      omega (arith, length-append (insert (take n records) p w) (drop (n + 1) records), length-drop (n + 1) records)

  pub copied_up : (new : List Wait) → length new ≡ length records → CopiedTo records new p (p + 1) (n - p) × SameBelow records new (p + 1) × SameFrom records new (p + 1 + (n - p))
      → set new p w ≡ put_in records n p w
  copied_up new size moved =
      let s = length_put_in in
      let front = put_in_used in
      ext_get_or (wait_of 0 0) (set new p w) (put_in records n p w)
      (simp length-set (omega arith))
      (λ k h. grind (arith, places, used, front, get_or-set_same, get_or-set_other, cases_lt k (n + 1), cases_order k p, moved.0 k (wait_of 0 0), moved.1 k (wait_of 0 0), moved.2 k (wait_of 0 0)))

-- records moved down

module _ (records : List Wait) (n p : ℕ) (within : p < n) (few : n ≤ length records) where
  in_use : length (take n records) ≡ n
  in_use = length-take-le n records few

  pub taken_out_used : length (remove (take n records) p) ≡ n - 1
  taken_out_used = let s = in_use in omega (arith, length-remove (take n records) p (omega arith))

  pub length_taken_out : length (taken_out records n p) ≡ length records
  length_taken_out =
      let s = taken_out_used in
      omega (arith, length-append (remove (take n records) p) (drop (n - 1) records), length-drop (n - 1) records)

  pub copied_down : (new : List Wait) → length new ≡ length records → CopiedTo records new (p + 1) p (n - (p + 1)) × SameBelow records new p × SameFrom records new (p + (n - (p + 1)))
      → new ≡ taken_out records n p
  copied_down new size moved =
      let s = length_taken_out in
      let front = taken_out_used in
      ext_get_or (wait_of 0 0) new (taken_out records n p)
      (omega arith)
      (λ k h.
      grind (
        arith,
        places,
        in_use,
        front,
        cases_lt k (n - 1),
        get_or-remove_below (take n records) p (wait_of 0 0) k,
        get_or-remove_above (take n records) p (wait_of 0 0) k,
        moved.0 k (wait_of 0 0),
        moved.1 k (wait_of 0 0),
        moved.2 k (wait_of 0 0),
      ))
