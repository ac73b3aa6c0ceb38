-- Calls made one after the other, each with its own slice.
use Rattle.std.proofs.Common.{◌≡◌, ℕ, ◌+◌, ◌<◌, ◌≤◌, List, [], ◌∷◌, ◌++◌, length, get_or, take, drop, set, Some, sym, refl, ap, ◌∙◌, subst, ⊎_elim, arith, length-take, take_all, get_or-set_other, get_or-set_same, drop-set-lt}
use Rattle.std.proofs.lemmas.List.{take_more, take_more_set, drop_more, get_or_default}
use Rattle.std.proofs.lemmas.Bool.{cases_lt}
use Rattle.tables.specs.Meaning.{Meaning}
use Rattle.stores.specs.Holding.{Holding}
use Rattle.board.specs.Standing.{Limits, Stands}
use Rattle.runs.specs.declared.calls.Ask.{Ask}
use Rattle.runs.specs.declared.calls.Call.{Call}
use Rattle.runs.specs.Law.{Outcome, Event, standing, Law, StepKeeps}
use Rattle.runs.specs.Replay.{left_by, event, told, Replayed, CallKeeps}
use Rattle.runs.proofs.Stepping.{upright}
use Rattle.runs.proofs.Runs.{law_none, law_more, standing_snoc}

pub step_same : {m m' : Meaning} {h h' : Holding} {q : Ask} {a : Outcome} {old old' new new' : List ℕ} → old ≡ old' → new ≡ new' → StepKeeps m h q old a new m' h' → StepKeeps m h q old' a new' m' h'
step_same {m} {m'} {h} {h'} {q} {a} {old} {old'} {new} {new'} e e' k =
    subst (λ x. StepKeeps m h q x a new' m' h') e (subst (λ y. StepKeeps m h q old a y m' h') e' k)

told_more : (cs ds : List Call) → length cs ≡ length ds → (c d : Call) → told (cs ++ c ∷ []) (ds ++ d ∷ []) ≡ told cs ds ++ event c d ∷ []
told_more [] [] e c d = refl
told_more [] (y ∷ ds) e c d = absurd (omega arith)
told_more (x ∷ cs) [] e c d = absurd (omega arith)
told_more (x ∷ cs) (y ∷ ds) e c d = ap (λ es. event x y ∷ es) (told_more cs ds (omega arith) c d)

-- the first i calls are made, and the board stands as they left it
pub record Going (b : Limits) (xs ys : List Call) (i : ℕ) (m : Meaning) (h : Holding) : Type 0 where
  pub asks : (j : ℕ) (x : Call) → j < i → (get_or ys j x).ask ≡ (get_or xs j x).ask
  pub answered : (j : ℕ) (x : Call) → j < i → (get_or ys j x).answer ≡ Some (left_by (get_or ys j x))
  pub law : Law b (told (take i xs) (take i ys))
  pub stands : Stands b (standing (told (take i xs) (take i ys))) m h

pub going_none : (b : Limits) (xs : List Call) (m : Meaning) (h : Holding) → Stands b [] m h → Going b xs xs 0 m h
going_none b xs m h st = record { asks = λ j x l. absurd (omega arith); answered = λ j x l. absurd (omega arith); law = law_none b (upright b [] st.sound); stands = st }

module _ (b : Limits) (xs ys : List Call) (i : ℕ) (x d : Call) (lx : i < length xs) (ly : i < length ys) (same : drop i ys ≡ drop i xs) where
  here : get_or ys i x ≡ get_or xs i x
  here =
      let u : get_or ys i x ∷ drop (i + 1) ys ≡ get_or xs i x ∷ drop (i + 1) xs = sym (drop_more ys i x ly) ∙ same ∙ drop_more xs i x lx in
      cc

  pub rest_more : drop (i + 1) (set ys i d) ≡ drop (i + 1) xs
  rest_more =
      let u : get_or ys i x ∷ drop (i + 1) ys ≡ get_or xs i x ∷ drop (i + 1) xs = sym (drop_more ys i x ly) ∙ same ∙ drop_more xs i x lx in
      let w : drop (i + 1) ys ≡ drop (i + 1) xs = cc in
      drop-set-lt (i + 1) ys i d (omega arith) ∙ w

  pub going_more : {m m' : Meaning} {h h' : Holding} → Going b xs ys i m h → CallKeeps m h (get_or ys i x) d m' h' → Going b xs (set ys i d) (i + 1) m' h'
  going_more {m} {m'} {h} {h'} g k =
      let es : List Event = told (take i xs) (take i ys) in
      let k' : CallKeeps m h (get_or xs i x) d m' h' = subst (λ c. CallKeeps m h c d m' h') here k in
      let s = k'.step.keeps b (standing es) g.stands in
      let n : length (take i xs) ≡ length (take i ys) = length-take i xs ∙ omega (arith, length-take i ys) in
      let e : told (take (i + 1) xs) (take (i + 1) (set ys i d)) ≡ es ++ event (get_or xs i x) d ∷ [] =
      ap (λ l. told l (take (i + 1) (set ys i d))) (take_more xs i x lx) ∙ ap (told (take i xs ++ get_or xs i x ∷ [])) (take_more_set ys i d ly) ∙ told_more (take i xs) (take i ys) n (get_or xs i x) d in
      record {
        asks = λ j y l. ⊎_elim (λ (f : j < i). ask_front j y f) (λ (f : i ≤ j). ask_here j y (omega arith)) (cases_lt j i);
        answered = λ j y l. ⊎_elim (λ (f : j < i). answered_front j y f) (λ (f : i ≤ j). answered_here j y (omega arith)) (cases_lt j i);
        law = subst (Law b) (sym e) (law_more b es (event (get_or xs i x) d) g.law s.0 (upright b _ s.1.sound));
        stands = subst (λ V. Stands b V m' h') (sym (ap standing e ∙ standing_snoc [] es (event (get_or xs i x) d))) s.1;
      }
    where
      ask_front : (j : ℕ) (y : Call) → j < i → (get_or (set ys i d) j y).ask ≡ (get_or xs j y).ask
      ask_front j y f = ap (λ c. c.ask) (get_or-set_other ys i j d y (λ e. omega arith)) ∙ g.asks j y f

      ask_here : (j : ℕ) (y : Call) → j ≡ i → (get_or (set ys i d) j y).ask ≡ (get_or xs j y).ask
      ask_here j y e =
          ap (λ n. (get_or (set ys i d) n y).ask) e ∙ ap (λ c. c.ask) (get_or-set_same ys i d y ly) ∙ k.ask ∙ ap (λ c. c.ask) (here ∙ get_or_default xs i x y lx) ∙ ap (λ n. (get_or xs n y).ask) (sym e)

      answered_front : (j : ℕ) (y : Call) → j < i → (get_or (set ys i d) j y).answer ≡ Some (left_by (get_or (set ys i d) j y))
      answered_front j y f = subst (λ (c : Call). c.answer ≡ Some (left_by c)) (sym (get_or-set_other ys i j d y (λ e. omega arith))) (g.answered j y f)

      answered_here : (j : ℕ) (y : Call) → j ≡ i → (get_or (set ys i d) j y).answer ≡ Some (left_by (get_or (set ys i d) j y))
      answered_here j y e =
          subst (λ (c : Call). c.answer ≡ Some (left_by c)) (sym (ap (λ n. get_or (set ys i d) n y) e ∙ get_or-set_same ys i d y ly)) k.answered

pub going_ends : (b : Limits) (xs ys : List Call) (i : ℕ) {m : Meaning} {h : Holding} → length xs ≡ i → length ys ≡ i → Going b xs ys i m h → Replayed b xs ys
going_ends b xs ys i lx ly g = record {
  size = ly ∙ sym lx;
  asks = λ j x l. g.asks j x (omega arith);
  answered = λ j x l. g.answered j x (omega arith);
  law = subst (Law b) (ap (λ l. told l (take i ys)) (take_all i xs (omega arith)) ∙ ap (told xs) (take_all i ys (omega arith))) g.law;
}
