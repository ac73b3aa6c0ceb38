-- The earliest moves after a move: `rounds` with `sooner`.
use Rattle.std.proofs.Common.{◌≡◌, ℕ, suc, ◌-◌, ◌<◌, ◌≤◌, Bool, true, ◌↔◌, List, Some, None, Option, sym, refl, ap, ◌∙◌, subst, inl, inr, arith}
use native.Mathlib.Decide.{dec_lt, dec_le, ℕ_discrete}
use Rattle.order.specs.Lists.{In, there, onward}
use Rattle.order.specs.Board.{Lengths, Move, Edges, On, Step, Before, Running}
use Rattle.order.specs.Rounds.{LeastOf, Table, Right, Row, entry, sooner, Begins, rounds, Settled, FirstAfter, Finds, Few, Bounded, Tells}
use Rattle.order.proofs.Lists.{reaches_trans}
use Rattle.order.proofs.Board.{along}
use Rattle.order.proofs.Deciding.{before_dec, tests}
use Rattle.order.proofs.Ranks.{first, first_is}
use Rattle.order.proofs.Rounds.{Within, Of, Progress, progress, same_rows}
use Rattle.order.proofs.Settling.{settled, few_settle}
use Rattle.order.proofs.Ways.{fits, on_after, no_back, spot, spot_rises, spot_edges, spot_along}

sooner_left : (a b : Option ℕ) (j : ℕ) → Within ◌≤◌ a j → Within ◌≤◌ (sooner a b) j
sooner_left None b j h = absurd h
sooner_left (Some a) None j h = h
sooner_left (Some a) (Some b) j h = omega arith

sooner_right : (a b : Option ℕ) (j : ℕ) → Within ◌≤◌ b j → Within ◌≤◌ (sooner a b) j
sooner_right None b j h = h
sooner_right (Some a) None j h = absurd h
sooner_right (Some a) (Some b) j h = omega arith

pub sooner_of : (G : ℕ → Type 0) (a b : Option ℕ) → Of a G → Of b G → Of (sooner a b) G
sooner_of G None b g h = h
sooner_of G (Some a) None g h = g
sooner_of G (Some a) (Some b) g h = elim (dec_le a b) [ yes l ↦ subst G (omega arith) g | no l ↦ subst G (omega arith) h ]

module _ (k : ℕ) (len : Lengths) (E : Edges) (L : List Move) (R : Running k len E L) (s i : ℕ) (on : On k len (s, i)) where
  abbrev Reach : ℕ → ℕ → Type 0
  Reach q j = Before k len E (s, i) (q, j) × On k len (q, j)

  abbrev Hop : ℕ → ℕ → ℕ → ℕ → Type 0
  Hop r a q b = In E ((r, a), (q, b))

  hop : (r a q b : ℕ) → Before k len E (s, i) (r, a) → Hop r a q b → Reach q b
  hop r a q b p w = (reaches_trans p (onward (inr w) (there refl)), (fits k len E L R (r, a) (q, b) w).1)

  -- the last edge on a way to another shuttle
  last_edge : {q j : ℕ} {x : Move} → Before k len E x (q, j) → (x.0 ≡ q → ⊥)
      → (r : ℕ) × (a : ℕ) × (b : ℕ) × (r ≡ q → ⊥) × Before k len E x (r, a) × In E ((r, a), (q, b)) × (b ≤ j)
  last_edge (there e) ne = absurd (ne (ap (λ z. z.0) e))
  last_edge {q} {j} {x} (onward {w} st p) ne = go (ℕ_discrete w.0 q) st (last_edge p)
    where
      Last : Move → Type 0
      Last y = (r : ℕ) × (a : ℕ) × (b : ℕ) × (r ≡ q → ⊥) × Before k len E y (r, a) × In E ((r, a), (q, b)) × (b ≤ j)

      go : Dec (w.0 ≡ q) → Step k len E x w → ((w.0 ≡ q → ⊥) → Last w) → Last x
      go (no d) t ih = let h = ih d in (h.0, h.1, h.2, h.3, onward t h.4, h.5, h.6)
      go (yes d) (inl g) ih = absurd (ne (sym (ap (λ z. z.0) g.2) ∙ d))
      go (yes d) (inr g) ih = (
        x.0,
        x.1,
        w.1,
        ne,
        there refl,
        subst (λ t. In E (x, (t, w.1))) d g,
        no_back k len E L R q w.1 j (subst (λ t. On k len (t, w.1)) d (fits k len E L R x w g).1) (subst (λ t. Before k len E (t, w.1) (q, j)) d p),
      )

  last_hop : (q j : ℕ) → (q ≡ s → ⊥) → Reach q j → (r : ℕ) × (a : ℕ) × (b : ℕ) × (r ≡ q → ⊥) × Reach r a × Hop r a q b × Reach q b × (b ≤ j)
  last_hop q j ne p =
      let h = last_edge p.0 (λ e. ne (sym e)) in
      (h.0, h.1, h.2, h.3, (h.4, on_after k len E L R h.4 on), h.5, hop h.0 h.1 q h.2 h.4 h.5, h.6)

  after : (B : Move → Bool) × ((x : Move) → (B x ≡ true) ↔ Before k len E (s, i) x)
  after = tests (λ x. Before k len E (s, i) x) (λ x. before_dec k len E L R (s, i) x)

  best : ℕ → ℕ
  best q = first (λ j. after.0 (q, j)) (len q)

  best_is : (q j : ℕ) → Reach q j → Reach q (best q) × (best q ≤ j)
  unfolding best
  best_is q j p =
      let r = first_is (λ j. after.0 (q, j)) (len q) j p.1.1 ((after.1 (q, j)).1 p.0) in
      let g = (after.1 (q, best q)).0 r.0 in
      ((g, on_after k len E L R g on), r.1)

  module _ (f : Table) (right : Right k len E f) (xs : Row) (start : Begins f k s i xs) where
    of_least : (r q p : ℕ) → Reach r p → (o : Option ℕ) → LeastOf E r q p o → Of o (Reach q)
    of_least r q p g None h = tt
    of_least r q p g (Some j) h =
        let w = h.0 in
        hop r w.0 q j (reaches_trans g.0 (along k len E r p w.0 g.1.0 w.1 (fits k len E L R (r, w.0) (q, j) w.2).0.1)) w.2

    upto_least : (r q p : ℕ) (o : Option ℕ) → LeastOf E r q p o → (a b : ℕ) → Hop r a q b → p ≤ a → Within ◌≤◌ o b
    upto_least r q p None h a b w l = h a b w l
    upto_least r q p (Some j) h a b w l = h.1 a b w l

    abbrev row : ℕ → ℕ → Option ℕ
    row m q = entry (rounds sooner f k s xs m) q

    steady : Progress ◌≤◌ k Reach Hop s i row
    steady =
        progress ◌≤◌ sooner sooner_left sooner_right sooner_of k Reach Hop f
        (λ r q p a b lr lq ne g l w. upto_least r q p (f r q p) (right r q p lr lq ne g.1.1) a b w l)
        (λ r q p lr lq ne g. of_least r q p g (f r q p) (right r q p lr lq ne g.1.1))
        s i (there refl, on) on.0 (omega arith) xs start

    settled_after : (m : ℕ) → Settled sooner f k s xs m → (q j : ℕ) → Before k len E (s, i) (q, j) → Within ◌≤◌ (row m q) j
    settled_after m still q j p =
        settled ◌≤◌ (λ a b c x y. omega arith) (λ a b x y. omega arith) k Reach Hop s i (λ q j g. g.1.0) (there refl, on)
        (λ j g. no_back k len E L R s i j on g.0) last_hop (λ q j. spot k len E L R (q, j))
        (λ r a q b g w. spot_edges k len E L R (r, a) (q, b) w)
        (λ q a b g h l. spot_along k len E L R q a b g.1.0 l h.1.1)
        (λ q j ne g. spot_rises k len E L R (s, i) (q, j) g.0 (λ e. ne (sym (ap (λ z. z.0) e))))
        row steady m (λ x _. ap (λ ys. entry ys x) still) q j (p, on_after k len E L R p on)

    few_after : (m : ℕ) → k ≤ suc (suc m) → Settled sooner f k s xs m
    few_after m l =
        same_rows sooner f k s (rounds sooner f k s xs m)
        (few_settle ◌≤◌ (λ a b c x y. omega arith) (λ a b x y. omega arith) k Reach Hop s i (λ q j g. g.1.0) (there refl, on)
        (λ j g. no_back k len E L R s i j on g.0) last_hop (λ q j. spot k len E L R (q, j))
        (λ r a q b g w. spot_edges k len E L R (r, a) (q, b) w)
        (λ q a b g h l. spot_along k len E L R q a b g.1.0 l h.1.1)
        (λ q j ne g. spot_rises k len E L R (s, i) (q, j) g.0 (λ e. ne (sym (ap (λ z. z.0) e))))
        row steady best best_is m l)

    first_after_is : (q : ℕ) (o : Option ℕ) → Of o (Reach q) → ((j : ℕ) → Before k len E (s, i) (q, j) → Within ◌≤◌ o j) → FirstAfter k len E (s, i) q o
    first_after_is q None g h = h
    first_after_is q (Some p) g h = (g.0, h)

    found_after : (m : ℕ) → Settled sooner f k s xs m → (q : ℕ) → q < k → FirstAfter k len E (s, i) q (row m q)
    found_after m still q lq = first_after_is q (row m q) (steady.reached m q lq) (settled_after m still q)

pub finds : Finds
finds k len E o f right s i on xs start m still q lq = found_after k len E o.0 o.1 s i on f right xs start m still q lq

pub few : Few
few k len E o f right s i on xs start m l = few_after k len E o.0 o.1 s i on f right xs start m l

pub bounded : Bounded
bounded k len E o f right s i on xs start two m none' =
    elim (dec_lt (suc m) k) [ yes l ↦ l | no l ↦ absurd (none' (k - 2) (omega arith) (few k len E o f right s i on xs start (k - 2) (omega arith))) ]

pub tells : Tells
tells k len E u t None h j on = (λ p. h j p, λ e. absurd e)
tells k len E u t (Some p) h j on = (λ q. h.1 j q, λ l. reaches_trans h.0 (along k len E t p j on.0 l on.1))
