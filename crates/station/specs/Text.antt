-- Bytes written into a buffer, one after the other.
use Rattle.std.specs.Prelude.{◌≡◌, ℕ, suc, ◌+◌, List, [], ◌∷◌, length, slice_set}

-- the buffer after the bytes are written at `at` and on; what finds no room is left out
abbrev pub poured : List ℕ → ℕ → List ℕ → List ℕ
poured xs at [] = xs
poured xs at (b ∷ bs) = poured (slice_set xs at b) (suc at) bs

-- the bytes are written at `at` and on, which makes the buffer ys, and the next goes to n
pub record Pours (xs : List ℕ) (at : ℕ) (bs ys : List ℕ) (n : ℕ) : Type 0 where
  pub bytes : ys ≡ poured xs at bs
  pub next : n ≡ at + length bs
