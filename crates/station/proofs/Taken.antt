-- What it says that the station takes a file: the board that it makes then.
use Rattle.std.proofs.Common.{◌≡◌, ℕ, zero, suc, ◌+◌, ◌*◌, ◌^◌, ◌<◌, ◌≤◌, true, leb, List, length, None, Ok, Err, Result, IfOk, sym, refl, ap, ◌∙◌, subst, ⊎_elim, le_refl, mul-le-mul, arith, pow_mono}
use Rattle.std.proofs.lemmas.Bool.Decides.{nat_tests}
use Rattle.std.proofs.lemmas.Bool.{leb-true, le-leb, cases_lt}
use Rattle.words.specs.declared.Refusal.{Refusal}
use Rattle.words.specs.Refusals.{number_of, passed, refused, then, unless, if_done}
use Rattle.words.specs.declared.kinds.TableKind.{TableKind}
use Rattle.words.specs.declared.kinds.TableKind.TheVariants.{Plain, Full, Sparse}
use Rattle.words.specs.Kinds.{table_kind_of}
use Rattle.words.proofs.Checks.{then_first, then_second, then_ok, unless_passed}
use Rattle.tables.specs.Meaning.{Meaning, full_meaning}
use Rattle.tables.specs.Answers.{sizable}
use Rattle.tables.specs.Plain.{plain_check, plain_made}
use Rattle.stores.specs.Holding.{Holding}
use Rattle.stores.specs.Loose.{empty_holding}
use Rattle.board.specs.Standing.{limits}
use Rattle.station.specs.Edit.{shuttles_of, moves_of, count_of, well_formed, sizes_taken, kind_check, form_check, file_check, header_told, header_taken}
use Rattle.station.specs.declared.edit.Header.{Header}
use Rattle.fulltree.specs.Full.{numbers_of, full_check, full_made}
use Rattle.fulltree.specs.Leaves.{leaves_of, leaves_power, leaves_smallest}
use Rattle.station.specs.Station.{Reported, station_limits, Made, MadeWhere, Reports, AnswersBy, Station, Taken, empty_table}
use Rattle.station.proofs.Files.{formed}

-- the kinds

kinds_end : (n : ℕ) → 2 < n → table_kind_of n ≡ refused 12
kinds_end n l = grind (arith, nat_tests)

pub kind_known : (n : ℕ) (k : TableKind) → Ok k ≡ table_kind_of n → kind_check k ≡ unless (leb n 1) 12
kind_known zero k e = let z : k ≡ Plain = cc in ap kind_check z
kind_known (suc zero) k e = let z : k ≡ Full = cc in ap kind_check z
kind_known (suc (suc zero)) k e = let z : k ≡ Sparse = cc in ap kind_check z
kind_known (suc (suc (suc n))) k e =
    let y : ◌≡◌ {A = Result TableKind Refusal} (Ok k) (refused 12) = e ∙ kinds_end (suc (suc (suc n))) (omega arith) in
    let z : ◌≡◌ {A = ℕ} 0 1 = cc in absurd (omega arith)

-- what the checks of a file say

pub taken : (file : List ℕ) (room : ℕ) → passed ≡ form_check file room → Taken file room
taken file room a =
    let b = then_second (unless (well_formed file) 10) _ tt a in
    record {
      formed = unless_passed (well_formed file) 10 (then_first (unless (well_formed file) 10) _ tt a);
      sizes = unless_passed (sizes_taken file) 11 (then_first (unless (sizes_taken file) 11) _ tt b);
      space = leb-true (24 * (count_of file + 1)) room (unless_passed _ 9 (then_second (unless (sizes_taken file) 11) _ tt b));
    }

pub header_passed : (file : List ℕ) (room : ℕ) (h : Header) → Ok h ≡ header_taken file room → passed ≡ form_check file room
header_passed file room h e = then_first (form_check file room) _ h e

pub header_takes : (file : List ℕ) (room : ℕ) (h : Header) → Ok h ≡ header_taken file room → Taken file room
header_takes file room h e = taken file room (header_passed file room h e)

pub header_is : (file : List ℕ) (room : ℕ) (h : Header) → Ok h ≡ header_taken file room → h ≡ header_told file
header_is file room h e = let z : Ok h ≡ Ok (header_told file) = then_second (form_check file room) _ h e in cc

-- the sizes lie within the station's limits
record Within (k n : ℕ) : Type 0 where
  pub shuttles_some : 1 ≤ k
  pub shuttles_few : k ≤ 4
  pub moves_some : 1 ≤ n
  pub moves_few : n ≤ 256

within : (file : List ℕ) → sizes_taken file ≡ true → Within (shuttles_of file) (moves_of file)
unfolding sizes_taken
within file e = record { shuttles_some = grind (arith, nat_tests); shuttles_few = grind (arith, nat_tests); moves_some = grind (arith, nat_tests); moves_few = grind (arith, nat_tests) }

sizable_ok : (k n : ℕ) → Within k n → passed ≡ sizable k n
unfolding sizable
sizable_ok k n w = grind (arith, nat_tests)

-- 4,096 numbers are enough for the plain table
plain_ok : (k n : ℕ) → Within k n → passed ≡ plain_check k n 4096
unfolding plain_check
plain_ok k n w =
    let e : k * k * n ≤ 4096 = mul-le-mul (mul-le-mul w.shuttles_few w.shuttles_few) w.moves_few in
    sym (then_ok (sizable k n) _ (sizable_ok k n w) ∙ ap (λ b. unless b 9) (le-leb (k * k * n) 4096 e))

-- a tree for at most 256 places has at most 256 leaves
leaves_at_most : (d : ℕ) → 2 ^ d < 512 → 2 ^ d ≤ 256
leaves_at_most d l = ⊎_elim (λ (f : d < 9). pow_mono {i = d} {j = 8} (omega arith)) (λ (f : 9 ≤ d). absurd (let g : 2 ^ 9 ≤ 2 ^ d = pow_mono f in omega arith)) (cases_lt d 9)

leaves_small : (n : ℕ) → 1 ≤ n → n ≤ 256 → leaves_of n ≤ 256
leaves_small n s l =
    let p = leaves_power n in
    let f : 2 ^ p.0 < 512 = omega (arith, p.1, leaves_smallest n s) in
    omega (arith, p.1, leaves_at_most p.0 f)

-- 8,192 numbers are enough for the full tree
full_ok : (k n : ℕ) → Within k n → passed ≡ full_check k n 8192
unfolding full_check
full_ok k n w =
    let e : k * k * (2 * leaves_of n) ≤ 8192 =
    mul-le-mul (mul-le-mul w.shuttles_few w.shuttles_few) (mul-le-mul (le_refl 2) (leaves_small n w.moves_some w.moves_few)) in
    sym (then_ok (sizable k n) _ (sizable_ok k n w) ∙ ap (λ b. unless b 9) (le-leb (numbers_of k n) 8192 e))

-- a table that is made of the file's sizes is empty
module _ (file : List ℕ) (h : Header) (e : h ≡ header_told file) (m : Meaning) where
  emptied : (q : ℕ → ℕ → Result Unit Refusal) → passed ≡ q (shuttles_of file) (moves_of file)
      → m ≡ if_done (q h.aisle.shuttles h.aisle.moves) (full_meaning 1 1 (λ s t i. None)) (full_meaning h.aisle.shuttles h.aisle.moves (λ s t i. None)) → m ≡ empty_table file
  emptied q ok em =
      em ∙ ap (λ (x : Header). if_done (q x.aisle.shuttles x.aisle.moves) (full_meaning 1 1 (λ s t i. None)) (full_meaning x.aisle.shuttles x.aisle.moves (λ s t i. None))) e
      ∙ ap (λ r. if_done r (full_meaning 1 1 (λ s t i. None)) (empty_table file)) (sym ok)

  plain_emptied : sizes_taken file ≡ true → m ≡ plain_made h.aisle.shuttles h.aisle.moves 4096 → m ≡ empty_table file
  plain_emptied s em = emptied (λ x y. plain_check x y 4096) (plain_ok (shuttles_of file) (moves_of file) (within file s)) em

  full_emptied : sizes_taken file ≡ true → m ≡ full_made h.aisle.shuttles h.aisle.moves 8192 → m ≡ empty_table file
  full_emptied s em = emptied (λ x y. full_check x y 8192) (full_ok (shuttles_of file) (moves_of file) (within file s)) em

pub plain_empty : (file : List ℕ) (room : ℕ) (h : Header) (m : Meaning) → Ok h ≡ header_taken file room → m ≡ plain_made h.aisle.shuttles h.aisle.moves 4096 → m ≡ empty_table file
plain_empty file room h m e em = plain_emptied file h (header_is file room h e) m (taken file room (header_passed file room h e)).sizes em

pub full_empty : (file : List ℕ) (room : ℕ) (h : Header) (m : Meaning) → Ok h ≡ header_taken file room → m ≡ full_made h.aisle.shuttles h.aisle.moves 8192 → m ≡ empty_table file
full_empty file room h m e em = full_emptied file h (header_is file room h e) m (taken file room (header_passed file room h e)).sizes em

-- a report over an empty table and store is the station's
pub made_over : (file old new : List ℕ) (r : ℕ) (m : Meaning) (h : Holding) → m ≡ empty_table file → h ≡ empty_holding 1024
    → Reported (limits m h) file old new r → r ≤ 24 * (count_of file + 1) → Made file old new r
made_over file old new r m h em eh p s = record {
  reported = subst (λ b. Reported b file old new r) (ap (λ x. limits x h) em ∙ ap (λ y. limits (empty_table file) y) eh) p;
  short = s;
}

-- the answer of a whole call

pub reports_by : (kind : ℕ) (file old new : List ℕ) (a : Result ℕ Refusal) (u : Result Unit Refusal) → u ≡ unless (leb kind 1) 12
    → MadeWhere (then u (form_check file (length old))) file old new a → Reports kind file old new a
reports_by kind file old new a u e p = subst (λ x. MadeWhere (then x (form_check file (length old))) file old new a) e p

checked : (kind : ℕ) (file : List ℕ) (room : ℕ) → passed ≡ file_check kind file room → Taken file room
checked kind file room e = taken file room (then_second (unless (leb kind 1) 12) _ tt e)

fits : (q : Result Unit Refusal) (file old new : List ℕ) (a : Result ℕ Refusal) → (passed ≡ q → Taken file (length old)) → length new ≡ length old
    → MadeWhere q file old new a → IfOk a (λ r. r ≤ length new)
fits (Ok x) file old new a t n p = let s = (t refl).space in subst (λ y. IfOk y (λ r. r ≤ length new)) (sym p.1) (omega (arith, p.2.short, s))
fits (Err e) file old new a t n p = subst (λ y. IfOk y (λ r. r ≤ length new)) (sym p.0) tt

pub report_fits : (kind : ℕ) (file old new : List ℕ) (a : Result ℕ Refusal) → length new ≡ length old → Reports kind file old new a → IfOk a (λ r. r ≤ length new)
report_fits kind file old new a n p = fits (file_check kind file (length old)) file old new a (checked kind file (length old)) n p

small : (q : Result Unit Refusal) (file old new : List ℕ) (r : ℕ) → (passed ≡ q → Taken file (length old)) → MadeWhere q file old new (Ok r) → r < 2 ^ 32
small (Ok x) file old new r t p =
    let f = formed file (t refl).formed in
    let z : r ≡ p.0 = cc in
    omega (arith, z, p.2.short, f.whole, f.few)
small (Err e) file old new r t p = let z : ◌≡◌ {A = ℕ} 0 1 = cc in absurd (omega arith)

pub report_small : (kind : ℕ) (file old new : List ℕ) (a : Result ℕ Refusal) (r : ℕ) → a ≡ Ok r → Reports kind file old new a → r < 2 ^ 32
report_small kind file old new a r i p =
    small (file_check kind file (length old)) file old new r (checked kind file (length old)) (subst (λ x. Reports kind file old new x) i p)

-- the answer as a number

number_made : (q : Result Unit Refusal) (file old new : List ℕ) (r : ℕ) → MadeWhere q file old new (Ok r) → AnswersBy q file old new r
number_made (Ok x) file old new r p = let z : p.0 ≡ r = cc in subst (λ n. Reported (station_limits file) file old new n) z p.2.reported
number_made (Err e) file old new r p = let z : ◌≡◌ {A = ℕ} 0 1 = cc in absurd (omega arith)

number_refused : (q : Result Unit Refusal) (file old new : List ℕ) (e : Refusal) (n : ℕ) → MadeWhere q file old new (Err e) → n ≡ 2147483648 + number_of e → AnswersBy q file old new n
number_refused (Ok x) file old new e n p i = let z : ◌≡◌ {A = ℕ} 0 1 = cc in absurd (omega arith)
number_refused (Err r) file old new e n p i = let z : e ≡ r = cc in (i ∙ ap (λ x. 2147483648 + number_of x) z, p.1)

pub station_made : (kind : ℕ) (file old new : List ℕ) (a : Result ℕ Refusal) (r : ℕ) → a ≡ Ok r → Reports kind file old new a → Station kind file old new r
station_made kind file old new a r i p = number_made (file_check kind file (length old)) file old new r (subst (λ x. Reports kind file old new x) i p)

pub station_refused : (kind : ℕ) (file old new : List ℕ) (a : Result ℕ Refusal) (e : Refusal) (n : ℕ) → a ≡ Err e → n ≡ 2147483648 + number_of e → Reports kind file old new a → Station kind file old new n
station_refused kind file old new a e n i j p = number_refused (file_check kind file (length old)) file old new e n (subst (λ x. Reports kind file old new x) i p) j
