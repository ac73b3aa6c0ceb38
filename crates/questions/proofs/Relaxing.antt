-- The steps of the two loops of a round.
use Rattle.std.proofs.Common.{◌≡◌, ℕ, ◌+◌, ◌≤◌, ap, ◌∙◌, add-one, arith, eq-eqb, ne_eqb}
use Rattle.order.specs.Rounds.{Table, Pick, Row, relaxed, pulled, swept}

module _ (pick : Pick) (f : Table) (xs ys zs : Row) where
  pub pulled_skip : (q r : ℕ) → ys ≡ pulled pick f xs q r → r ≡ q → zs ≡ ys → zs ≡ pulled pick f xs q (r + 1)
  pulled_skip q r e g h = rw (add-one, eq-eqb r q g) (h ∙ e)

  pub pulled_step : (q r : ℕ) → ys ≡ pulled pick f xs q r → (r ≡ q → ⊥) → zs ≡ relaxed pick f ys q r → zs ≡ pulled pick f xs q (r + 1)
  pulled_step q r e g h = rw (add-one, ne_eqb r q g) (h ∙ ap (λ l. relaxed pick f l q r) e)

  pub swept_skip : (k s q : ℕ) → ys ≡ swept pick f k s xs q → q ≡ s → zs ≡ ys → zs ≡ swept pick f k s xs (q + 1)
  swept_skip k s q e g h = rw (add-one, eq-eqb q s g) (h ∙ e)

  pub swept_step : (k s q : ℕ) → ys ≡ swept pick f k s xs q → (q ≡ s → ⊥) → zs ≡ pulled pick f ys q k → zs ≡ swept pick f k s xs (q + 1)
  swept_step k s q e g h = rw (add-one, ne_eqb q s g) (h ∙ ap (λ l. pulled pick f l q k) e)

-- where the two loops end

module _ (pick : Pick) (f : Table) (k : ℕ) (xs ys : Row) where
  pub pulled_all : (q r : ℕ) → k ≤ r → r ≤ k → ys ≡ pulled pick f xs q r → ys ≡ pulled pick f xs q k
  pulled_all q r l g e = let d : r ≡ k = omega arith in e ∙ ap (pulled pick f xs q) d

  pub swept_all : (s q : ℕ) → k ≤ q → q ≤ k → ys ≡ swept pick f k s xs q → ys ≡ swept pick f k s xs k
  swept_all s q l g e = let d : q ≡ k = omega arith in e ∙ ap (swept pick f k s xs) d
