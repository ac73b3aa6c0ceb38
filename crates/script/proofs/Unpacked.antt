-- The script of an edit file, line by line.
use Rattle.std.proofs.Common.{◌≡◌, ℕ, ◌+◌, Bool, true, false, cond, List, ◌++◌, Some, None, Option, sym, ap, ◌∙◌, arith, add-one}
use Rattle.std.proofs.lemmas.List.{flat_map_more}
use Rattle.std.specs.List.{flat_map}
use Rattle.runs.specs.declared.calls.Ask.{Ask}
use Rattle.station.specs.Edit.{step_at, step_told, steps_below}
use Rattle.script.specs.Texts.{line_text, told_text}

chosen : {X : Type 0} (b : Bool) (o : Option X) (x : X) → cond b o None ≡ Some x → o ≡ Some x
chosen true o x e = e
chosen false o x e = let z : ◌≡◌ {A = ℕ} 0 1 = cc in absurd (omega arith)

-- a line more
pub one_more :
    (bs front before after : List ℕ) (i : ℕ) (ask : Ask) → before ≡ front ++ flat_map told_text (steps_below bs i) → step_told bs i ≡ Some ask
    → after ≡ before ++ line_text ask → after ≡ front ++ flat_map told_text (steps_below bs (i + 1))
one_more bs front before after i ask e s w =
    let line : line_text ask ≡ told_text (step_at bs i) = sym (ap told_text (chosen _ (step_at bs i) ask s)) in
    rw (add-one i) (w ∙ ap (λ x. x ++ line_text ask) e ∙ ap (λ x. (front ++ flat_map told_text (steps_below bs i)) ++ x) line ∙ flat_map_more told_text front (steps_below bs i) (step_at bs i))
