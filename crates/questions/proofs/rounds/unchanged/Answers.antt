use Rattle.std.proofs.Common.{◌≡◌, ℕ, eqb, Some, None, Option, refl, sym, arith}
use Rattle.std.specs.Bool.{Decides}
use Rattle.std.specs.Option.{option_eq}
use Rattle.std.proofs.lemmas.Bool.{both_ways, eqb-true, eq-eqb}
use Rattle.std.proofs.lemmas.Slice.Eq.{slice_eq-Decides}
use Rattle.questions.proofs.rounds.unchanged.Goals as goal

none_some : {A : Type 0} {x : ℕ} → None ≡ Some x → A
none_some e = let z : ◌≡◌ {A = ℕ} 0 1 = cc in absurd (omega arith)

same : (a b : Option ℕ) → Decides (option_eq eqb a b) (a ≡ b)
same None None = ((λ _. refl), (λ _. refl))
same None (Some y) = ((λ e. absurd (both_ways _ refl e)), (λ e. none_some e))
same (Some x) None = ((λ e. absurd (both_ways _ refl e)), (λ e. none_some (sym e)))
same (Some x) (Some y) = ((λ e. cc_some (eqb-true x y e)), (λ e. eq-eqb x y (unwrapped e)))
  where
    cc_some : x ≡ y → Some x ≡ Some y
    cc_some e = cc

    unwrapped : Some x ≡ Some y → x ≡ y
    unwrapped e = cc

pub returns : goal.returns
returns c = slice_eq-Decides same c.args.a.now c.args.b.now c.eq.result c.eq.ensures
