-- One call of a run, from what the board's call says.
use Rattle.std.proofs.Common.{◌≡◌, ℕ, Bool, List, Ok, Err, Option, Result, sym, refl, ap, subst}
use Rattle.words.specs.declared.Refusal.{Refusal}
use Rattle.tables.specs.Meaning.{Meaning}
use Rattle.stores.specs.Holding.{Holding}
use Rattle.order.proofs.Laws.{exact}
use Rattle.questions.specs.declared.rounds.Way.TheVariants.{After, Before as Ahead}
use Rattle.board.specs.Standing.{Limits, Waits, Sound, Stands, lengths, placed_waits, removed_waits, PlaceKeeps, RemoveKeeps, FindsSo, TellsSo, ListsAt, PushesAt, TestsAt}
use Rattle.runs.specs.declared.calls.Ask.TheVariants.{Place, Remove, Before as IsBefore, FirstAfter, LastBefore, List as ListMoves, Push as PushMove, Test as TestOrder}
use Rattle.runs.specs.declared.calls.Answer.TheVariants.{Tested as TestedAs}
use Rattle.runs.specs.Law.{Outcome, done_answer, truth_answer, found_answer, count_answer, after_call, Upright, StepKeeps}

pub upright : (b : Limits) (W : Waits) → Sound b W → Upright b W
upright b W h = record { order = h.ordered; before = exact b.shuttles (lengths b) W h.ordered }

after_placed : (W : Waits) (u v : ℕ) (r : Result Unit Refusal) → placed_waits W u v r ≡ after_call W (Place u v) (done_answer r)
after_placed W u v (Ok x) = refl
after_placed W u v (Err e) = refl

after_removed : (W : Waits) (u v : ℕ) (r : Result Unit Refusal) → removed_waits W u v r ≡ after_call W (Remove u v) (done_answer r)
after_removed W u v (Ok x) = refl
after_removed W u v (Err e) = refl

module _ (m : Meaning) (h : Holding) (a : Outcome) where
  pub step_place : (m' : Meaning) (h' : Holding) (u v : ℕ) (old : List ℕ) (r : Result Unit Refusal) → PlaceKeeps m h u v r m' h' → a ≡ done_answer r → StepKeeps m h (Place u v) old a old m' h'
  step_place m' h' u v old r p e =
      subst (λ y. StepKeeps m h (Place u v) old y old m' h') (sym e)
      (record { keeps = λ b W st. let k = p.at b W st in (((r, refl, k.0, k.1), refl), subst (λ V. Stands b V m' h') (after_placed W u v r) k.2) })

  pub step_remove : (m' : Meaning) (h' : Holding) (u v : ℕ) (old : List ℕ) (r : Result Unit Refusal) → RemoveKeeps m h u v r m' h' → a ≡ done_answer r → StepKeeps m h (Remove u v) old a old m' h'
  step_remove m' h' u v old r p e =
      subst (λ y. StepKeeps m h (Remove u v) old y old m' h') (sym e)
      (record { keeps = λ b W st. let k = p.at b W st in ((ap done_answer k.0, refl), subst (λ V. Stands b V m' h') (after_removed W u v r) k.1) })

  pub step_before : (u v : ℕ) (old : List ℕ) (r : Result Bool Refusal) (c : ℕ) → TellsSo m h u v r c → a ≡ truth_answer r c → StepKeeps m h (IsBefore u v) old a old m h
  step_before u v old r c p e = record { keeps = λ b W st. (((r, c, e, p.at b W st), refl), st) }

  pub step_first : (u t : ℕ) (old : List ℕ) (r : Result (Option ℕ) Refusal) (c : ℕ) → FindsSo After m h u t r c → a ≡ found_answer r c → StepKeeps m h (FirstAfter u t) old a old m h
  step_first u t old r c p e = record { keeps = λ b W st. (((r, c, e, p.at b W st), refl), st) }

  pub step_last : (u t : ℕ) (old : List ℕ) (r : Result (Option ℕ) Refusal) (c : ℕ) → FindsSo Ahead m h u t r c → a ≡ found_answer r c → StepKeeps m h (LastBefore u t) old a old m h
  step_last u t old r c p e = record { keeps = λ b W st. (((r, c, e, p.at b W st), refl), st) }

  pub step_list : (old new : List ℕ) (r : Result ℕ Refusal) → ListsAt m h old new r → a ≡ count_answer r → StepKeeps m h ListMoves old a new m h
  step_list old new r p e = record { keeps = λ b W st. ((r, e, p.at b W st), st) }

  pub step_push : (v : ℕ) (old new : List ℕ) (r : Result ℕ Refusal) → PushesAt m h v old new r → a ≡ count_answer r → StepKeeps m h (PushMove v) old a new m h
  step_push v old new r p e = record { keeps = λ b W st. ((r, e, p.at b W st), st) }

  pub step_test : (old : List ℕ) (y : Bool) → TestsAt m h old y → a ≡ Ok (TestedAs y) → StepKeeps m h TestOrder old a old m h
  step_test old y p e = record { keeps = λ b W st. (((y, e, p.at b W st), refl), st) }
