-- The latest moves before a move: `rounds` with `later`.
use Rattle.std.proofs.Common.{◌≡◌, ℕ, suc, ◌-◌, ◌<◌, ◌≤◌, Bool, true, ◌↔◌, List, length, Some, None, Option, sym, refl, ap, ◌∙◌, subst, inl, inr, arith}
use native.Mathlib.Decide.{dec_lt, dec_le, ℕ_discrete}
use Rattle.order.specs.Lists.{In, there, onward}
use Rattle.order.specs.Board.{Lengths, Move, Edges, On, Step, Before, Running}
use Rattle.order.specs.Rounds.{GreatestOf, Table, RightBack, turned, Row, entry, later, Begins, rounds, Settled, LastBefore, FindsBack, FewBack, BoundedBack, TellsBack}
use Rattle.order.proofs.Lists.{reaches_trans}
use Rattle.order.proofs.Board.{along}
use Rattle.order.proofs.Deciding.{same_move, before_dec, tests}
use Rattle.order.proofs.Ranks.{latest, latest_is, place_small}
use Rattle.order.proofs.Rounds.{Within, Of, Progress, progress, same_rows}
use Rattle.order.proofs.Settling.{settled, few_settle}
use Rattle.order.proofs.Ways.{fits, on_step, on_before, no_back, spot, spot_rises, spot_edges, spot_along}

abbrev Ge : ℕ → ℕ → Type 0
Ge a b = b ≤ a

later_left : (a b : Option ℕ) (j : ℕ) → Within Ge a j → Within Ge (later a b) j
later_left None b j h = absurd h
later_left (Some a) None j h = h
later_left (Some a) (Some b) j h = omega arith

later_right : (a b : Option ℕ) (j : ℕ) → Within Ge b j → Within Ge (later a b) j
later_right None b j h = h
later_right (Some a) None j h = absurd h
later_right (Some a) (Some b) j h = omega arith

pub later_of : (G : ℕ → Type 0) (a b : Option ℕ) → Of a G → Of b G → Of (later a b) G
later_of G None b g h = h
later_of G (Some a) None g h = g
later_of G (Some a) (Some b) g h = elim (dec_le b a) [ yes l ↦ subst G (omega arith) g | no l ↦ subst G (omega arith) h ]

module _ (k : ℕ) (len : Lengths) (E : Edges) (L : List Move) (R : Running k len E L) (s i : ℕ) (on : On k len (s, i)) where
  abbrev Reach : ℕ → ℕ → Type 0
  Reach q j = Before k len E (q, j) (s, i) × On k len (q, j)

  abbrev Hop : ℕ → ℕ → ℕ → ℕ → Type 0
  Hop r a q b = In E ((q, b), (r, a))

  hop : (r a q b : ℕ) → Before k len E (r, a) (s, i) → Hop r a q b → Reach q b
  hop r a q b p w = (onward (inr w) p, (fits k len E L R (q, b) (r, a) w).0)

  -- the first edge on a way from another shuttle
  module _ (q : ℕ) (ne : q ≡ s → ⊥) where
    abbrev Lead : Move → Type 0
    Lead x = (r : ℕ) × (a : ℕ) × (b : ℕ) × (r ≡ q → ⊥) × Before k len E (r, a) (s, i) × In E ((q, b), (r, a)) × (x.1 ≤ b)

    lead_step : (x w : Move) → x.0 ≡ q → Step k len E x w → Before k len E w (s, i) → Dec (w.0 ≡ q) → (w.0 ≡ q → Lead w) → Lead x
    lead_step x w e st p (yes d) ih =
        let h = ih d in
        let l = no_back k len E L R x.0 x.1 w.1 (on_step k len E L R x w st).0 (onward (subst (λ t. Step k len E x (t, w.1)) (d ∙ sym e) st) (there refl)) in
        (h.0, h.1, h.2, h.3, h.4, h.5, omega (arith, h.6, l))
    lead_step x w e (inl g) p (no d) ih = absurd (d (ap (λ z. z.0) g.2 ∙ e))
    lead_step x w e (inr g) p (no d) ih = (w.0, w.1, x.1, d, p, subst (λ t. In E ((t, x.1), w)) e g, omega arith)

    first_edge : {x : Move} → Before k len E x (s, i) → x.0 ≡ q → Lead x
    first_edge (there d) e = absurd (ne (sym e ∙ ap (λ z. z.0) d))
    first_edge {x} (onward {w} st p) e = lead_step x w e st p (ℕ_discrete w.0 q) (first_edge p)

  last_hop : (q j : ℕ) → (q ≡ s → ⊥) → Reach q j → (r : ℕ) × (a : ℕ) × (b : ℕ) × (r ≡ q → ⊥) × Reach r a × Hop r a q b × Reach q b × Ge b j
  last_hop q j ne p =
      let h = first_edge q ne p.0 refl in
      (h.0, h.1, h.2, h.3, (h.4, on_before k len E L R h.4 on), h.5, hop h.0 h.1 q h.2 h.4 h.5, h.6)

  before : (B : Move → Bool) × ((x : Move) → (B x ≡ true) ↔ Before k len E x (s, i))
  before = tests (λ x. Before k len E x (s, i)) (λ x. before_dec k len E L R x (s, i))

  best : ℕ → ℕ
  best q = latest (λ j. before.0 (q, j)) (len q)

  best_is : (q j : ℕ) → Reach q j → Reach q (best q) × Ge (best q) j
  unfolding best
  best_is q j p =
      let r = latest_is (λ j. before.0 (q, j)) (len q) j p.1.1 ((before.1 (q, j)).1 p.0) in
      let g = (before.1 (q, best q)).0 r.0 in
      ((g, on_before k len E L R g on), r.1)

  -- ways lead down the list
  rank : ℕ → ℕ → ℕ
  rank q j = length L - spot k len E L R (q, j)

  rank_down : (x y : Move) → spot k len E L R x < spot k len E L R y → rank y.0 y.1 < rank x.0 x.1
  unfolding rank
  rank_down x y l = omega (arith, l, place_small same_move L y)

  rank_along : (q a b : ℕ) → Reach q a → Reach q b → Ge a b → rank q a ≤ rank q b
  unfolding rank
  rank_along q a b g h l = omega (arith, spot_along k len E L R q b a g.1.0 l g.1.1)

  module _ (g : Table) (right : RightBack k len E g) (xs : Row) (start : Begins (turned g) k s i xs) where
    of_greatest : (r q p : ℕ) → Reach r p → (o : Option ℕ) → GreatestOf E q r p o → Of o (Reach q)
    of_greatest r q p h None d = tt
    of_greatest r q p h (Some j) d =
        let w = d.0 in
        hop r w.0 q j (reaches_trans (along k len E r w.0 p h.1.0 w.1 h.1.1) h.0) w.2

    upto_greatest : (r q p : ℕ) (o : Option ℕ) → GreatestOf E q r p o → (a b : ℕ) → Hop r a q b → Ge p a → Within Ge o b
    upto_greatest r q p None d a b w l = d b a w l
    upto_greatest r q p (Some j) d a b w l = d.1 b a w l

    abbrev row : ℕ → ℕ → Option ℕ
    row m q = entry (rounds later (turned g) k s xs m) q

    steady : Progress Ge k Reach Hop s i row
    steady =
        progress Ge later later_left later_right later_of k Reach Hop (turned g)
        (λ r q p a b lr lq ne h l w. upto_greatest r q p (g q r p) (right q r p lq lr (λ e. ne (sym e)) h.1.1) a b w l)
        (λ r q p lr lq ne h. of_greatest r q p h (g q r p) (right q r p lq lr (λ e. ne (sym e)) h.1.1))
        s i (there refl, on) on.0 (omega arith) xs start

    settled_before : (m : ℕ) → Settled later (turned g) k s xs m → (q j : ℕ) → Before k len E (q, j) (s, i) → Within Ge (row m q) j
    settled_before m still q j p =
        settled Ge (λ a b c x y. omega arith) (λ a b x y. omega arith) k Reach Hop s i (λ q j h. h.1.0) (there refl, on)
        (λ j h. no_back k len E L R s j i h.1 h.0) last_hop rank
        (λ r a q b h w. rank_down (q, b) (r, a) (spot_edges k len E L R (q, b) (r, a) w)) rank_along
        (λ q j ne h. rank_down (q, j) (s, i) (spot_rises k len E L R (q, j) (s, i) h.0 (λ e. ne (ap (λ z. z.0) e))))
        row steady m (λ x _. ap (λ ys. entry ys x) still) q j (p, on_before k len E L R p on)

    few_before : (m : ℕ) → k ≤ suc (suc m) → Settled later (turned g) k s xs m
    few_before m l =
        same_rows later (turned g) k s (rounds later (turned g) k s xs m)
        (few_settle Ge (λ a b c x y. omega arith) (λ a b x y. omega arith) k Reach Hop s i (λ q j h. h.1.0) (there refl, on)
        (λ j h. no_back k len E L R s j i h.1 h.0) last_hop rank
        (λ r a q b h w. rank_down (q, b) (r, a) (spot_edges k len E L R (q, b) (r, a) w)) rank_along
        (λ q j ne h. rank_down (q, j) (s, i) (spot_rises k len E L R (q, j) (s, i) h.0 (λ e. ne (ap (λ z. z.0) e))))
        row steady best best_is m l)

    last_before_is : (q : ℕ) (o : Option ℕ) → Of o (Reach q) → ((j : ℕ) → Before k len E (q, j) (s, i) → Within Ge o j) → LastBefore k len E (s, i) q o
    last_before_is q None h d = d
    last_before_is q (Some p) h d = (h.0, d)

    found_before : (m : ℕ) → Settled later (turned g) k s xs m → (q : ℕ) → q < k → LastBefore k len E (s, i) q (row m q)
    found_before m still q lq = last_before_is q (row m q) (steady.reached m q lq) (settled_before m still q)

pub finds_back : FindsBack
finds_back k len E o g right s i on xs start m still q lq = found_before k len E o.0 o.1 s i on g right xs start m still q lq

pub few_back : FewBack
few_back k len E o g right s i on xs start m l = few_before k len E o.0 o.1 s i on g right xs start m l

pub bounded_back : BoundedBack
bounded_back k len E o g right s i on xs start two m none' =
    elim (dec_lt (suc m) k) [ yes l ↦ l | no l ↦ absurd (none' (k - 2) (omega arith) (few_back k len E o g right s i on xs start (k - 2) (omega arith))) ]

pub tells_back : TellsBack
tells_back k len E u t None h on o j lt = (λ p. h j p, λ e. absurd e)
tells_back k len E u t (Some p) h on o j lt = (λ q. h.1 j q, λ l. reaches_trans (along k len E t j p lt l (on_before k len E o.0 o.1 h.0 on).1) h.0)
