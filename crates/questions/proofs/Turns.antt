-- The loop over rounds: what it keeps, why it ends, and what it ends with.
use Rattle.std.proofs.Common.{◌≡◌, ℕ, suc, ◌+◌, ◌*◌, ◌<◌, ◌≤◌, length, sym, refl, ap, ◌∙◌, subst, ⊎_elim, add-one, arith}
use native.Mathlib.Decide.{ℕ_discrete}
use Rattle.order.specs.Rounds.{Table, Row, swept, rounds, Settled}
use Rattle.order.proofs.Rounds.{length_swept}
use Rattle.questions.specs.declared.rounds.Way.{Way}
use Rattle.questions.specs.Looking.{pick_of, Under, Places, ComesTo}
use Rattle.questions.proofs.Falls.{weight, weight_le, swept_less, swept_places}

-- c rounds have led from the row `start` to the row `row`, each of them changed an entry, and each cost weight
pub record Turning (w : Way) (n : ℕ) (f : Table) (k s : ℕ) (start row : Row) (c : ℕ) : Type 0 where
  pub wide : length row ≡ 16
  pub places : Places n row
  pub spent : c + weight w n row ≤ weight w n start
  pub is : row ≡ rounds (pick_of w) f k s start c
  pub unsettled : (l : ℕ) → l < c → Settled (pick_of w) f k s start l → ⊥

-- fewer than 2 ^ 16 rounds are run in any case
pub turning_small : (w : Way) (n : ℕ) (f : Table) (k s : ℕ) {start row : Row} {c : ℕ} → Turning w n f k s start row c → n ≤ 4096 → Places n start → length start ≡ 16 → c ≤ 65536
turning_small w n f k s {start} {row} {c} t few h e =
    let a : weight w n start ≤ 16 * n = subst (λ x. weight w n start ≤ x * n) e (weight_le w n start h) in
    omega (arith, a, t.spent)

module _ (w : Way) (n : ℕ) (f : Table) (under : (r q p : ℕ) → Under n (f r q p)) (k s : ℕ) where
  pub turning_none : (start : Row) → length start ≡ 16 → Places n start → Turning w n f k s start start 0
  turning_none start e h = record { wide = e; places = h; spent = omega arith; is = refl; unsettled = λ l b _. omega arith }

  module _ {start row : Row} {c : ℕ} (t : Turning w n f k s start row c) (next : Row) (e : next ≡ swept (pick_of w) f k s row k) where
    next_is : next ≡ rounds (pick_of w) f k s start (suc c)
    next_is = e ∙ ap (λ xs. swept (pick_of w) f k s xs k) t.is

    pub turning_less : (next ≡ row → ⊥) → weight w n next < weight w n row
    turning_less ne =
        rw e (⊎_elim (λ (d : swept (pick_of w) f k s row k ≡ row). absurd (ne (e ∙ d))) (λ h. h) (swept_less w n f under k s row k))

    pub turning_more : (next ≡ row → ⊥) → Turning w n f k s start next (c + 1)
    turning_more ne = record {
      wide = ap length e ∙ length_swept (pick_of w) f k s row k ∙ t.wide;
      places = subst (Places n) (sym e) (swept_places w n f under k s row k t.places);
      spent = omega (arith, turning_less ne, t.spent);
      is = rw add-one next_is;
      unsettled = λ l b h. elim (ℕ_discrete l c) [
        | yes d ↦ ne (next_is ∙ subst (λ x. Settled (pick_of w) f k s start x) d h ∙ sym t.is)
        | no d ↦ t.unsettled l (omega arith) h
      ];
    }

    pub turning_ends : next ≡ row → ComesTo (pick_of w) f k s start next (c + 1)
    turning_ends d = (c, add-one c, sym next_is ∙ d ∙ t.is, t.unsettled, d ∙ t.is)
