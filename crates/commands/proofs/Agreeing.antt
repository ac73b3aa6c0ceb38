-- A written move that has a code is checked as the board checks the code.
use Rattle.std.proofs.Common.{◌≡◌, ℕ, ◌+◌, ◌*◌, ◌/◌, ◌%◌, ◌<◌, ◌≤◌, min, ltb, Ok, Err, Result, sym, refl, ap, ◌∙◌, arith}
use Rattle.words.specs.declared.Refusal.{Refusal}
use Rattle.words.specs.Refusals.{then, unless}
use Rattle.words.specs.Codes.{code_of}
use Rattle.questions.specs.Checks.{move_check}
use Rattle.commands.specs.declared.values.Move.{Move}
use Rattle.commands.specs.Calls.{coded, AsBoard}

regroup : {X : Type 0} (a b : Result Unit Refusal) (c : Result X Refusal) → then a (then b c) ≡ then (then a b) c
regroup (Ok u) b c = refl
regroup (Err e) b c = refl

pub agreeing : (k n : ℕ) (m : Move) → k ≤ 16 → n ≤ 4096 → m.place < 4096
    → coded k n m ≡ then (move_check k n (code_of m.shuttle m.place)) (Ok (code_of m.shuttle m.place))
unfolding move_check
agreeing k n m small short low =
    let s = m.shuttle in
    let i = m.place in
    let shuttle : (s * 4096 + i) / 4096 ≡ s = omega (arith, low) in
    let place : (s * 4096 + i) % 4096 ≡ i = omega (arith, low) in
    let shuttles : min k 16 ≡ k = omega (arith, small) in
    let moves : min n 4096 ≡ n = omega (arith, short) in
    ap (λ x. then (unless (ltb s x) 1) (then (unless (ltb i (min n 4096)) 2) (Ok (code_of s i)))) shuttles
    ∙ ap (λ x. then (unless (ltb s k) 1) (then (unless (ltb i x) 2) (Ok (code_of s i)))) moves
    ∙ regroup (unless (ltb s k) 1) (unless (ltb i n) 2) (Ok (code_of s i))
    ∙ ap (λ x. then (then (unless (ltb x k) 1) (unless (ltb i n) 2)) (Ok (code_of s i))) (sym shuttle)
    ∙ ap (λ x. then (then (unless (ltb ((s * 4096 + i) / 4096) k) 1) (unless (ltb x n) 2)) (Ok (code_of s i))) (sym place)

-- so is one that is answered so
pub alike : (k n : ℕ) (m : Move) (r : Result ℕ Refusal) → r ≡ coded k n m → AsBoard k n m r
alike k n m r e = λ small short low. e ∙ agreeing k n m small short low
