-- The law leaves one outcome.
use Rattle.std.proofs.Common.{◌≡◌, ℕ, suc, ◌<◌, List, [], ◌∷◌, length, get_or, take, Ok, sym, refl, ap, ◌∙◌, subst, arith}
use Rattle.questions.specs.declared.rounds.Way.TheVariants.{After, Before as Ahead}
use Rattle.board.specs.Standing.{Limits, Waits}
use Rattle.board.proofs.Unique.{one_placed, one_told, one_found, one_listed, one_pushed, one_tested}
use Rattle.runs.specs.declared.calls.Ask.{Ask}
use Rattle.runs.specs.declared.calls.Ask.TheVariants.{Place, Remove, Before as IsBefore, FirstAfter, LastBefore, List as ListMoves, Push as PushMove, Test as TestOrder}
use Rattle.runs.specs.declared.calls.Answer.TheVariants.{Tested as TestedAs}
use Rattle.runs.specs.declared.calls.Call.{Call}
use Rattle.runs.specs.Law.{Outcome, done_answer, truth_answer, found_answer, count_answer, after_call, Answered, Event, standing_from, RightAt, SameCalls, OneOutcome}
use Rattle.runs.specs.Replay.{told, MadeOf, Replayed, OnlyOutcome}

-- where the same waits stand, a call has one answer and leaves one slice
pub one_answered : (b : Limits) (W : Waits) (q : Ask) (old : List ℕ) (a : Outcome) (new : List ℕ) (a' : Outcome) (new' : List ℕ)
    → Answered b W q old a new → Answered b W q old a' new' → (a ≡ a') × (new ≡ new')
one_answered b W (Place u v) old a new a' new' g h =
    let x = g.0 in
    let y = h.0 in
    (x.1 ∙ ap done_answer (one_placed b W u v x.0 y.0 x.2 y.2) ∙ sym y.1, g.1 ∙ sym h.1)
one_answered b W (Remove u v) old a new a' new' g h = (g.0 ∙ sym h.0, g.1 ∙ sym h.1)
one_answered b W (IsBefore u v) old a new a' new' g h =
    let x = g.0 in
    let y = h.0 in
    let e = one_told b W u v x.0 y.0 x.1 y.1 x.3 y.3 in
    (x.2 ∙ ap (λ r. truth_answer r x.1) e.0 ∙ ap (truth_answer y.0) e.1 ∙ sym y.2, g.1 ∙ sym h.1)
one_answered b W (FirstAfter u t) old a new a' new' g h =
    let x = g.0 in
    let y = h.0 in
    let e = one_found b W After u t x.0 y.0 x.1 y.1 x.3 y.3 in
    (x.2 ∙ ap (λ r. found_answer r x.1) e.0 ∙ ap (found_answer y.0) e.1 ∙ sym y.2, g.1 ∙ sym h.1)
one_answered b W (LastBefore u t) old a new a' new' g h =
    let x = g.0 in
    let y = h.0 in
    let e = one_found b W Ahead u t x.0 y.0 x.1 y.1 x.3 y.3 in
    (x.2 ∙ ap (λ r. found_answer r x.1) e.0 ∙ ap (found_answer y.0) e.1 ∙ sym y.2, g.1 ∙ sym h.1)
one_answered b W ListMoves old a new a' new' g h =
    let e = one_listed b W old new new' g.0 h.0 g.2 h.2 in
    (g.1 ∙ ap count_answer e.0 ∙ sym h.1, e.1)
one_answered b W (PushMove v) old a new a' new' g h =
    let e = one_pushed b W v old new new' g.0 h.0 g.2 h.2 in
    (g.1 ∙ ap count_answer e.0 ∙ sym h.1, e.1)
one_answered b W TestOrder old a new a' new' g h =
    let x = g.0 in
    let y = h.0 in
    (x.1 ∙ ap (λ y. Ok (TestedAs y)) (one_tested b W old x.0 y.0 x.2 y.2) ∙ sym y.1, g.1 ∙ sym h.1)

-- so an event is one
same_event : (b : Limits) (W : Waits) (e f : Event) → e.ask ≡ f.ask → e.given ≡ f.given → RightAt b W e → RightAt b W f → e ≡ f
same_event b W e f q o g h =
    let g' : Answered b W f.ask f.given e.answer e.left =
    subst (λ x. Answered b W f.ask x e.answer e.left) o (subst (λ x. Answered b W x e.given e.answer e.left) q g) in
    let x = one_answered b W f.ask f.given e.answer e.left f.answer f.left g' h in
    (λ i. record { ask = q i; given = o i; answer = x.0 i; left = x.1 i })

-- each call is right, W standing at first
abbrev RightFrom : Limits → Waits → List Event → Type 0
RightFrom b W es = (i : ℕ) (x : Event) → i < length es → RightAt b (standing_from W (take i es)) (get_or es i x)

same_from : (b : Limits) (W : Waits) (es fs : List Event) → SameCalls es fs → RightFrom b W es → RightFrom b W fs → es ≡ fs
same_from b W [] [] s g h = refl
same_from b W [] (f ∷ fs) s g h = absurd s
same_from b W (e ∷ es) [] s g h = absurd s
same_from b W (e ∷ es) (f ∷ fs) s g h =
    let here : e ≡ f = same_event b W e f s.0 s.1 (g 0 e (omega arith)) (h 0 f (omega arith)) in
    let V : Event → Waits = λ x. after_call W x.ask x.answer in
    let rest : es ≡ fs = same_from b (V e) es fs s.2 (λ i x l. g (suc i) x (omega arith)) (subst (λ U. RightFrom b U fs) (ap V (sym here)) (λ i x l. h (suc i) x (omega arith))) in
    (λ i. here i ∷ rest i)

pub one_outcome : (b : Limits) → OneOutcome b
one_outcome b es fs s g h = same_from b [] es fs s g.each h.each

-- the outcome of a replay

same_made : (asked run : List Call) (es : List Event) → length run ≡ length asked → MadeOf asked es → SameCalls es (told asked run)
same_made [] run [] n m = tt
same_made [] run (e ∷ es) n m = absurd m
same_made (c ∷ asked) [] es n m = absurd (omega arith)
same_made (c ∷ asked) (d ∷ run) [] n m = absurd m
same_made (c ∷ asked) (d ∷ run) (e ∷ es) n m = (m.0, m.1, same_made asked run es (omega arith) m.2)

pub only_outcome : (b : Limits) (asked run : List Call) → Replayed b asked run → OnlyOutcome b asked run
only_outcome b asked run p = record { only = λ es m l. one_outcome b es (told asked run) (same_made asked run es p.size m) l p.law }
