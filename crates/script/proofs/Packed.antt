-- A packed file is well formed.
use Rattle.std.proofs.Common.{◌≡◌, ℕ, ◌+◌, ◌*◌, ◌≤◌, true, List, [], ◌∷◌, ◌++◌, length, arith}
use Rattle.std.proofs.lemmas.Bool.Decides.{nat_tests}
use Rattle.std.specs.Int.{w16, to_be_bytes}
use Rattle.std.specs.List.{flat_map}
use Rattle.station.specs.Edit.{well_formed}

pub header_forms : (a b c d high low steps : ℕ) (bs : List ℕ) → high * 256 + low ≡ steps → length bs ≡ 6 * steps → steps ≤ 2729 → well_formed (a ∷ b ∷ c ∷ d ∷ high ∷ low ∷ 0 ∷ 8 ∷ bs) ≡ true
unfolding well_formed
header_forms a b c d high low steps bs h l few = grind (arith, nat_tests)

pub file_forms :
    (file front bs shuttles moves count begin : List ℕ) (k n steps : ℕ)
    → file ≡ front ++ bs → front ≡ flat_map (λ x. x) (shuttles ∷ moves ∷ count ∷ begin ∷ [])
    → shuttles ≡ to_be_bytes w16 k → moves ≡ to_be_bytes w16 n → count ≡ to_be_bytes w16 steps → begin ≡ to_be_bytes w16 8
    → length bs ≡ 6 * steps → steps ≤ 2729 → well_formed file ≡ true
file_forms file front bs shuttles moves count begin k n steps e f ek en es eb l few =
    rw (e, f, ek, en, es, eb) (header_forms _ _ _ _ _ _ steps bs (omega arith) l few)
