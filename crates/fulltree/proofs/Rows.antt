-- Laws of the smallest value and the last place of a row of cells, beside those of crate `tables`.
use Rattle.std.proofs.Common.{◌≡◌, ℕ, zero, suc, ◌+◌, ◌*◌, ◌<◌, ◌≤◌, true, false, Some, None, Option, sym, refl, ap, ◌∙◌, ⊎_elim, arith}
use Rattle.std.proofs.lemmas.Bool.Decides.{nat_tests}
use Rattle.std.proofs.lemmas.Bool.{cases_lt, le-leb, lt-leb}
use Rattle.tables.specs.Meaning.{least_of, last_of, smaller, at_most}
use Rattle.tables.proofs.Extremes.{least_none, least_more, last_more}

pub smaller_none : (a : Option ℕ) → smaller a None ≡ a
smaller_none None = refl
smaller_none (Some x) = refl

pub smaller_assoc : (a b c : Option ℕ) → smaller (smaller a b) c ≡ smaller a (smaller b c)
smaller_assoc None b c = refl
smaller_assoc (Some x) None c = refl
smaller_assoc (Some x) (Some y) None = refl
smaller_assoc (Some x) (Some y) (Some z) = ap Some (grind (arith, nat_tests))

-- the first of the range, and the rest
pub least_first : (f : ℕ → Option ℕ) (l r : ℕ) → l < r → least_of f l r ≡ smaller (f l) (least_of f (l + 1) r)
least_first f l zero h = absurd (omega arith)
least_first f l (suc r) h =
    rw (le-leb l r (omega arith))
    (⊎_elim
    (λ (e : l < r). rw (le-leb (l + 1) r (omega arith), least_first f l r e) (smaller_assoc (f l) (least_of f (l + 1) r) (f r)))
    (λ (e : r ≤ l).
    let same : l ≡ r = omega arith in
    rw (lt-leb (l + 1) r (omega arith), least_none f l r e, same) (sym (smaller_none (f r))))
    (cases_lt l r))

-- the numbers from 2 l to 2 r - 1 give what those from l to r - 1 give
pub least_half : (f : ℕ → Option ℕ) (l r : ℕ) → ((q : ℕ) → l ≤ q → q < r → f q ≡ smaller (f (2 * q)) (f (2 * q + 1))) → least_of f (2 * l) (2 * r) ≡ least_of f l r
least_half f l zero h = refl
least_half f l (suc r) h =
    let e : 2 * suc r ≡ 2 * r + 1 + 1 = omega arith in
    ⊎_elim
    (λ (past : r < l). least_none f (2 * l) (2 * suc r) (omega arith) ∙ sym (least_none f l (suc r) past))
    (λ (within : l ≤ r).
    ap (least_of f (2 * l)) e
    ∙ least_more f (2 * l) (2 * r + 1) (omega arith)
    ∙ ap (λ x. smaller x (f (2 * r + 1))) (least_more f (2 * l) (2 * r) (omega arith) ∙ ap (λ x. smaller x (f (2 * r))) (least_half f l r (λ q a b. h q a (omega arith))))
    ∙ smaller_assoc (least_of f l r) (f (2 * r)) (f (2 * r + 1))
    ∙ ap (smaller (least_of f l r)) (sym (h r within (omega arith)))
    ∙ rw (le-leb l r within))
    (cases_lt r l)

-- the same at other places
pub least_shift : (f : ℕ → Option ℕ) (n i m : ℕ) → least_of (λ c. f (n + c)) i m ≡ least_of f (n + i) (n + m)
least_shift f n i zero = sym (least_none f (n + i) (n + 0) (omega arith))
least_shift f n i (suc m) =
    let e : n + suc m ≡ n + m + 1 = omega arith in
    ⊎_elim
    (λ (past : m < i). least_none (λ c. f (n + c)) i (suc m) past ∙ sym (least_none f (n + i) (n + suc m) (omega arith)))
    (λ (within : i ≤ m).
    rw (le-leb i m within)
    (ap (λ x. smaller x (f (n + m))) (least_shift f n i m) ∙ sym (least_more f (n + i) (n + m) (omega arith)) ∙ ap (least_of f (n + i)) (sym e)))
    (cases_lt m i)

-- the last place whose value is at most j
pub last_at : (f : ℕ → Option ℕ) (j n i : ℕ) → i < n → at_most j (f i) ≡ true → ((c : ℕ) → i < c → c < n → at_most j (f c) ≡ false) → last_of f j n ≡ Some i
last_at f j zero i l here past = absurd (omega arith)
last_at f j (suc n) i l here past =
    ⊎_elim
    (λ (b : i < n). rw (past n b (omega arith)) (last_at f j n i b here (λ c x y. past c x (omega arith))))
    (λ (b : n ≤ i). let same : i ≡ n = omega arith in let here' : at_most j (f n) ≡ true = rw same at here in rw here' (ap Some (sym same)))
    (cases_lt i n)

pub last_no : (f : ℕ → Option ℕ) (j n : ℕ) → ((c : ℕ) → c < n → at_most j (f c) ≡ false) → last_of f j n ≡ None
last_no f j zero none = refl
last_no f j (suc n) none = rw (none n (omega arith)) (last_no f j n (λ c l. none c (omega arith)))

-- places beyond the last one add nothing
pub least_past : (f : ℕ → Option ℕ) (i n e : ℕ) → i ≤ n → ((c : ℕ) → n ≤ c → c < n + e → f c ≡ None) → least_of f i (n + e) ≡ least_of f i n
least_past f i n zero l none = ap (least_of f i) (omega arith)
least_past f i n (suc e) l none =
    let more : n + suc e ≡ n + e + 1 = omega arith in
    ap (least_of f i) more ∙ least_more f i (n + e) (omega arith) ∙ ap (smaller (least_of f i (n + e))) (none (n + e) (omega arith) (omega arith)) ∙ smaller_none (least_of f i (n + e)) ∙ least_past f i n e l (λ c a b. none c a (omega arith))

pub last_past : (f : ℕ → Option ℕ) (j n e : ℕ) → ((c : ℕ) → n ≤ c → c < n + e → f c ≡ None) → last_of f j (n + e) ≡ last_of f j n
last_past f j n zero none = ap (last_of f j) (omega arith)
last_past f j n (suc e) none =
    let more : n + suc e ≡ n + e + 1 = omega arith in
    let empty = none (n + e) (omega arith) (omega arith) in
    ap (last_of f j) more ∙ last_more f j (n + e) ∙ rw empty (last_past f j n e (λ c a b. none c a (omega arith)))
