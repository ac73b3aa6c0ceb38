-- What a well-formed file has.
use Rattle.std.proofs.Common.{◌≡◌, ℕ, ◌+◌, ◌*◌, ◌<◌, ◌≤◌, Bool, true, false, leb, List, length, cond, Some, None, Ok, Err, sym, ap, ◌∙◌, arith}
use Rattle.std.proofs.lemmas.Bool.Decides.{nat_tests}
use Rattle.station.specs.Edit.{well_formed, sizes_within, sizes_taken, count_of, header_told, header_of, header_taken}
use Rattle.station.specs.declared.edit.Header.{Header}
use Rattle.words.specs.Refusals.{numbered, then, unless}

pub record Formed (bs : List ℕ) : Type 0 where
  pub some : 8 ≤ length bs
  pub few : length bs ≤ 16384
  pub whole : length bs ≡ 8 + 6 * count_of bs

pub formed : (bs : List ℕ) → well_formed bs ≡ true → Formed bs
unfolding well_formed
formed bs e = record { some = grind (arith, nat_tests); few = grind (arith, nat_tests); whole = grind (arith, nat_tests) }

pub some_bytes : (bs : List ℕ) → true ≡ well_formed bs → 8 ≤ length bs
some_bytes bs e = (formed bs (sym e)).some

-- the checks behind that of the form, by the header that was read
header_gives : (f : Bool) (bs : List ℕ) (room : ℕ) (h : Header) → Some h ≡ cond f (Some (header_told bs)) None
    → then (then (unless f 10) (then (unless (sizes_taken bs) 11) (unless (leb (24 * (count_of bs + 1)) room) 9))) (Ok (header_told bs))
    ≡ then (then (unless (sizes_within h.aisle.shuttles h.aisle.moves) 11) (unless (leb (24 * (h.steps + 1)) room) 9)) (Ok h)
unfolding sizes_taken
header_gives false bs room h e = let z : ◌≡◌ {A = ℕ} 0 1 = cc in absurd (omega arith)
header_gives true bs room h e =
    let z : header_told bs ≡ h = cc in
    ap (λ (x : Header). then (then (unless (sizes_within x.aisle.shuttles x.aisle.moves) 11) (unless (leb (24 * (x.steps + 1)) room) 9)) (Ok x)) z

pub refused_sizes : (bs : List ℕ) (room : ℕ) (h : Header) → Some h ≡ header_of bs → false ≡ sizes_within h.aisle.shuttles h.aisle.moves → Err (numbered 11) ≡ header_taken bs room
refused_sizes bs room h e s =
    sym (header_gives (well_formed bs) bs room h e ∙ ap (λ b. then (then (unless b 11) (unless (leb (24 * (h.steps + 1)) room) 9)) (Ok h)) (sym s))

pub refused_room : (bs : List ℕ) (room : ℕ) (h : Header) → Some h ≡ header_of bs → true ≡ sizes_within h.aisle.shuttles h.aisle.moves → room < 24 * (h.steps + 1) → Err (numbered 9) ≡ header_taken bs room
refused_room bs room h e s l =
    let t : leb (24 * (h.steps + 1)) room ≡ false = grind (arith, nat_tests) in
    sym (header_gives (well_formed bs) bs room h e ∙ ap (λ b. then (then (unless b 11) (unless (leb (24 * (h.steps + 1)) room) 9)) (Ok h)) (sym s) ∙ ap (λ b. then (unless b 9) (Ok h)) t)

pub header_goes : (bs : List ℕ) (room : ℕ) (h : Header) → Some h ≡ header_of bs → true ≡ sizes_within h.aisle.shuttles h.aisle.moves → 24 * (h.steps + 1) ≤ room → Ok h ≡ header_taken bs room
header_goes bs room h e s l =
    let t : leb (24 * (h.steps + 1)) room ≡ true = grind (arith, nat_tests) in
    sym (header_gives (well_formed bs) bs room h e ∙ ap (λ b. then (then (unless b 11) (unless (leb (24 * (h.steps + 1)) room) 9)) (Ok h)) (sym s) ∙ ap (λ b. then (unless b 9) (Ok h)) t)
