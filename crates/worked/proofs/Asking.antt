-- A question among three shuttles, where one round or two settle it. The rounds themselves are computed.
use Rattle.std.proofs.Common.{◌≡◌, ℕ, zero, suc, ◌/◌, ◌%◌, ◌<◌, cond, eqb, [], ◌∷◌, Some, refl, ap, inr, arith}
use Rattle.tables.specs.Meaning.{one}
use Rattle.order.specs.Rounds.{Table, Row, entry, Begins, rounds, Settled}
use Rattle.questions.specs.declared.rounds.Way.{Way}
use Rattle.questions.specs.Looking.{pick_of, look_of}
use Rattle.questions.specs.Asking.{coded, Finding}
use Rattle.board.specs.Standing.{Waits, meant}
use Rattle.worked.specs.Cases.{aisle}

-- the row to start from
abbrev start : Table → ℕ → ℕ → Row
start f s i = cond (eqb 0 s) (Some i) (f s 0 i) ∷ cond (eqb 1 s) (Some i) (f s 1 i) ∷ cond (eqb 2 s) (Some i) (f s 2 i) ∷ []

start_begins : (f : Table) (s i : ℕ) → Begins f 3 s i (start f s i)
start_begins f s i = (omega arith, each)
  where
    each : (q : ℕ) → q < 3 → entry (start f s i) q ≡ cond (eqb q s) (Some i) (f s q i)
    each zero l = refl
    each (suc zero) l = refl
    each (suc (suc zero)) l = refl
    each (suc (suc (suc q))) l = absurd (omega arith)

module _ (w : Way) (W : Waits) (u t : ℕ) (ne : u / 4096 ≡ t → ⊥) where
  abbrev look : Table
  look = look_of w (meant aisle W)

  abbrev first_row : Row
  first_row = start look (u / 4096) (u % 4096)

  abbrev row_after : ℕ → Row
  row_after m = rounds (pick_of w) look 3 (u / 4096) first_row m

  -- the first round changes nothing
  pub in_one : row_after 1 ≡ row_after 0 → Finding w (meant aisle W) u t (coded t (entry (row_after 0) t)) 1
  in_one still = inr (ne, (entry (row_after 0) t, refl, (first_row, start_begins look (u / 4096) (u % 4096), (0, refl, still, λ l g e. omega arith, refl))))

  -- the first round fills the entry of q, and the second changes nothing
  pub in_two : (q : ℕ) → one (entry (row_after 0) q) ≡ 0 → one (entry (row_after 1) q) ≡ 1 → row_after 2 ≡ row_after 1 → Finding w (meant aisle W) u t (coded t (entry (row_after 1) t)) 2
  in_two q before after still = inr (ne, (entry (row_after 1) t, refl, (first_row, start_begins look (u / 4096) (u % 4096), (1, refl, still, changed, refl))))
    where
      changed : (l : ℕ) → l < 1 → Settled (pick_of w) look 3 (u / 4096) first_row l → ⊥
      changed zero g e = omega (arith, before, after, ap (λ xs. one (entry xs q)) e)
      changed (suc l) g e = omega arith
