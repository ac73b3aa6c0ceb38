-- A run that is one call longer.
use Rattle.std.proofs.Common.{◌≡◌, ℕ, zero, suc, ◌<◌, ◌≤◌, List, [], ◌∷◌, ◌++◌, length, get_or, take, sym, refl, ap, ◌∙◌, subst, ⊎_elim, arith, length-append, take_all}
use lib.Seq.{take-append-le}
use Rattle.std.proofs.lemmas.Bool.{cases_lt}
use Rattle.board.specs.Standing.{Limits, Waits}
use Rattle.runs.specs.Law.{Event, after_call, standing_from, standing, RightAt, Upright, Law}

pub standing_snoc : (W : Waits) (es : List Event) (e : Event) → standing_from W (es ++ e ∷ []) ≡ after_call (standing_from W es) e.ask e.answer
standing_snoc W [] e = refl
standing_snoc W (x ∷ es) e = standing_snoc (after_call W x.ask x.answer) es e

get_d_front : {A : Type 0} (xs : List A) (y : A) (i : ℕ) (d : A) → i < length xs → get_or (xs ++ y ∷ []) i d ≡ get_or xs i d
get_d_front [] y i d l = absurd (omega arith)
get_d_front (x ∷ xs) y zero d l = refl
get_d_front (x ∷ xs) y (suc i) d l = get_d_front xs y i d (omega arith)

getD_end : {A : Type 0} (xs : List A) (y : A) (i : ℕ) (d : A) → i ≡ length xs → get_or (xs ++ y ∷ []) i d ≡ y
getD_end [] y i d e = rw e
getD_end (x ∷ xs) y zero d e = absurd (omega arith)
getD_end (x ∷ xs) y (suc i) d e = getD_end xs y i d (omega arith)

pub law_none : (b : Limits) → Upright b [] → Law b []
law_none b u = record { each = λ i x l. absurd (omega arith); upright = λ i l. go i l }
  where
    go : (i : ℕ) → i ≤ 0 → Upright b (standing (take i []))
    go zero l = u
    go (suc i) l = absurd (omega arith)

module _ (b : Limits) (es : List Event) (e : Event) (law : Law b es) (a : RightAt b (standing es) e) (u : Upright b (after_call (standing es) e.ask e.answer)) where
  law_front : (i : ℕ) → i ≤ length es → take i (es ++ e ∷ []) ≡ take i es
  law_front i l = take-append-le i es (e ∷ []) l

  pub law_more : Law b (es ++ e ∷ [])
  law_more = record {
    each = λ i x l. ⊎_elim (λ (f : i < length es). front i x f) (λ (f : length es ≤ i). last i x (omega (arith, length-append es (e ∷ [])))) (cases_lt i (length es));
    upright = λ i l. ⊎_elim
        (λ (f : i < suc (length es)). subst (λ ds. Upright b (standing ds)) (sym (law_front i (omega arith))) (law.upright i (omega arith)))
        (λ (f : suc (length es) ≤ i).
        subst (Upright b) (sym (ap standing (take_all i (es ++ e ∷ []) (omega (arith, length-append es (e ∷ [])))) ∙ standing_snoc [] es e)) u)
        (cases_lt i (suc (length es)));
  }
    where
      front : (i : ℕ) (x : Event) → i < length es → RightAt b (standing (take i (es ++ e ∷ []))) (get_or (es ++ e ∷ []) i x)
      front i x f =
          subst (λ ds. RightAt b (standing ds) (get_or (es ++ e ∷ []) i x)) (sym (law_front i (omega arith)))
          (subst (RightAt b (standing (take i es))) (sym (get_d_front es e i x f)) (law.each i x f))

      last : (i : ℕ) (x : Event) → i ≡ length es → RightAt b (standing (take i (es ++ e ∷ []))) (get_or (es ++ e ∷ []) i x)
      last i x q =
          subst (λ ds. RightAt b (standing ds) (get_or (es ++ e ∷ []) i x))
          (sym (law_front i (omega arith) ∙ take_all i es (omega arith)))
          (subst (RightAt b (standing es)) (sym (getD_end es e i x q)) a)
