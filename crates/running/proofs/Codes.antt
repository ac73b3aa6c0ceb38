-- The codes of a slice: their moves say which they are, so a slice is filled in one way where only one list will do.
use Rattle.std.proofs.Common.{◌≡◌, ℕ, suc, List, [], ◌∷◌, ◌++◌, length, get_or, take, drop, Ok, Err, Result, sym, refl, ap, ◌∙◌, arith, take-append-drop}
use Rattle.words.specs.declared.Refusal.{Refusal}
use Rattle.words.specs.Codes.{move_of}
use Rattle.order.specs.Board.{Move}
use Rattle.running.specs.Orders.{moves_of}
use Rattle.running.specs.Calls.{Fills}

-- codes with the same moves are the same

one_code : (c d : ℕ) → move_of c ≡ move_of d → c ≡ d
one_code c d e = omega (arith, ap (λ x. x.0) e, ap (λ x. x.1) e)

pub same_codes : (cs ds : List ℕ) → moves_of cs ≡ moves_of ds → cs ≡ ds
same_codes [] [] e = refl
same_codes [] (d ∷ ds) e = let z : ◌≡◌ {A = ℕ} 0 (suc (length (moves_of ds))) = ap length e in absurd (omega arith)
same_codes (c ∷ cs) [] e = let z : ◌≡◌ {A = ℕ} (suc (length (moves_of cs))) 0 = ap length e in absurd (omega arith)
same_codes (c ∷ cs) (d ∷ ds) e =
    let x : c ≡ d = one_code c d (ap (λ l. get_or l 0 (0, 0)) e) in
    let y : cs ≡ ds = same_codes cs ds (ap (drop 1) e) in
    (λ i. x i ∷ y i)

-- where C is so of one list alone, the slice and the answer are one
pub one_filled : (c : ℕ) (C : List Move → Type 0) → ((L M : List Move) → C L → C M → L ≡ M) → (old new new' : List ℕ) (x y : Result ℕ Refusal)
    → Fills c C old new x → Fills c C old new' y → (x ≡ y) × (new ≡ new')
one_filled c C only old new new' (Ok x) (Ok y) g h =
    let front : take c new ≡ take c new' = same_codes (take c new) (take c new') (only _ _ g.4 h.4) in
    let back : drop c new ≡ drop c new' = g.3 ∙ sym h.3 in
    (ap Ok (g.0 ∙ sym h.0), sym (take-append-drop c new) ∙ ap (λ l. l ++ drop c new) front ∙ ap (λ l. take c new' ++ l) back ∙ take-append-drop c new')
one_filled c C only old new new' (Ok x) (Err e) g h = absurd (omega (arith, g.1, h.0))
one_filled c C only old new new' (Err e) (Ok y) g h = absurd (omega (arith, g.0, h.1))
one_filled c C only old new new' (Err e) (Err f) g h = (g.1 ∙ sym h.1, g.2 ∙ sym h.2)
