-- The codes that a call writes to the front of a slice, where only one list of moves has the property asked for.
use Rattle.std.proofs.Common.{◌≡◌, ℕ, ◌≤◌, List, length, drop, Ok, Result, sym, refl, ◌∙◌, subst, arith, length-append, length-drop}
use lib.Seq.{take-append_seam, drop-append_seam}
use Rattle.words.specs.declared.Refusal.{Refusal}
use Rattle.order.specs.Board.{Move}
use Rattle.running.specs.Orders.{moves_of}
use Rattle.running.specs.Calls.{Fills}
use Rattle.running.proofs.Codes.{one_filled}
use Rattle.worked.specs.Only.{fronted}

module _ (C : List Move → Type 0) (cs : List ℕ) (is : C (moves_of cs)) (only : (L : List Move) → C L → L ≡ moves_of cs) (old : List ℕ) (le : length cs ≤ length old) where
  filled_so : Fills (length cs) C old (fronted cs old) (Ok (length cs))
  filled_so = (
    refl,
    le,
    omega (arith, length-append cs (drop (length cs) old), length-drop (length cs) old),
    drop-append_seam cs (drop (length cs) old),
    subst (λ x. C (moves_of x)) (sym (take-append_seam cs (drop (length cs) old))) is,
  )

  filled_only : (new : List ℕ) (r : Result ℕ Refusal) → Fills (length cs) C old new r → (new ≡ fronted cs old) × (r ≡ Ok (length cs))
  filled_only new r h =
      let x = one_filled (length cs) C (λ L M p q. only L p ∙ sym (only M q)) old new (fronted cs old) r (Ok (length cs)) h filled_so in
      (x.1, x.0)

  -- they are written, and nothing else is
  pub filled_just : Fills (length cs) C old (fronted cs old) (Ok (length cs)) × ((new : List ℕ) (r : Result ℕ Refusal) → Fills (length cs) C old new r → (new ≡ fronted cs old) × (r ≡ Ok (length cs)))
  filled_just = (filled_so, filled_only)
