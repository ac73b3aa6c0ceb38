-- The laws of lists made move by move.
use Rattle.std.proofs.Common.{◌≡◌, ℕ, zero, suc, ◌<◌, ◌≤◌, List, ◌∷◌, length, get_or, take, sym, refl, ap, ◌∙◌, subst, inl, inr, add-one, arith, take_all}
use native.Mathlib.Decide.{dec_lt}
use Rattle.std.proofs.lemmas.List.{take_more_same}
use Rattle.order.specs.Lists.{In, Earlier, there, onward}
use Rattle.order.specs.Board.{Move, Lengths, Edges, On, Before, Running, Ordered, total, rows}
use Rattle.order.proofs.Lists.{in_first}
use Rattle.order.proofs.Board.{along, sound}
use Rattle.order.proofs.Ways.{fits, on_before}
use Rattle.order.proofs.Rows.{starts}
use Rattle.order.proofs.Deciding.{in_dec, same_move}
use Rattle.order.proofs.Sizes.{no_longer}
use Rattle.order.proofs.Counting.{length_rows, counted}
use Rattle.running.specs.Orders.{Upcoming, Ready, Lowest, Chosen, FirstOf, Pushed, EachBy, Stepwise, OneList, ListRuns, OnePush, PushRuns, PushFirst}
use Rattle.running.proofs.Positions.{in_at, at_in, earlier_at, at_earlier, back_in}

abbrev none : Move
none = (0, 0)

module _ (k : ℕ) (len : Lengths) (W : Edges) where
  same_next : (P : List Move) (x y : Move) → Upcoming k len P x → Upcoming k len P y → x.0 ≡ y.0 → x ≡ y
  same_next P x y hx hy e =
      elim (dec_lt x.1 y.1) [
        | yes l ↦ absurd (hx.1 (subst (λ s. In P (s, x.1)) (sym e) (hy.2 x.1 l)))
        | no g ↦
            elim (dec_lt y.1 x.1) [
              | yes l ↦ absurd (hy.1 (subst (λ s. In P (s, y.1)) e (hx.2 y.1 l)))
              | no h ↦ let d : x.1 ≡ y.1 = omega arith in (λ i. (e i, d i))
            ]
      ]

  one_lowest : (B : Move → Type 0) (P : List Move) (x y : Move) → Lowest k len W B P x → Lowest k len W B P y → x ≡ y
  one_lowest B P x y hx hy =
      elim (dec_lt x.0 y.0) [
        | yes l ↦ absurd (hy.2 x l hx.0 hx.1)
        | no g ↦
            elim (dec_lt y.0 x.0) [
              | yes l ↦ absurd (hx.2 y l hy.0 hy.1)
              | no h ↦ same_next P x y hx.1.0 hy.1.0 (omega arith)
            ]
      ]

  as_lowest : (P : List Move) (x : Move) → Chosen k len W P x → Lowest k len W (λ _. Unit {0}) P x
  as_lowest P x h = (tt, h.0, λ y l _ r. h.1 y l r)

  one_chosen : (P : List Move) (x y : Move) → Chosen k len W P x → Chosen k len W P y → x ≡ y
  one_chosen P x y hx hy = one_lowest (λ _. Unit {0}) P x y (as_lowest P x hx) (as_lowest P y hy)

  one_first : (B : Move → Type 0) (P : List Move) (x y : Move) → FirstOf k len W B P x → FirstOf k len W B P y → x ≡ y
  one_first B P x y (inl hx) (inl hy) = one_lowest B P x y hx hy
  one_first B P x y (inl hx) (inr hy) = absurd (hx.1.0.1 (hy.0 x hx.1.0.0 hx.0))
  one_first B P x y (inr hx) (inl hy) = absurd (hy.1.0.1 (hx.0 y hy.1.0.0 hy.0))
  one_first B P x y (inr hx) (inr hy) = one_chosen P x y hx.1 hy.1

  first_ready : (B : Move → Type 0) (P : List Move) (x : Move) → FirstOf k len W B P x → Ready k len W P x
  first_ready B P x (inl h) = h.1
  first_ready B P x (inr h) = h.1.0

-- a choice that leaves one move at most leaves one list at most
one_by : (C : List Move → Move → Type 0) → ((P : List Move) (x y : Move) → C P x → C P y → x ≡ y) → (L M : List Move) → length L ≡ length M → EachBy C L → EachBy C M → L ≡ M
one_by C one L M e hl hm = sym (take_all (length L) L (omega arith)) ∙ up_to (length L) (omega arith) ∙ take_all (length L) M (omega arith)
  where
    up_to : (p : ℕ) → p ≤ length L → take p L ≡ take p M
    up_to zero l = refl
    up_to (suc p) l =
        let s = up_to p (omega arith) in
        let q : p < length L = omega arith in
        let r : p < length M = omega arith in
        subst (λ m. take m L ≡ take m M) (add-one p)
        (take_more_same L M p none q r s (one (take p L) (get_or L p none) (get_or M p none) (hl p q) (subst (λ P. C P (get_or M p none)) (sym s) (hm p r))))

pub one_list : OneList
one_list k len W L M hl hm = one_by (Chosen k len W) (one_chosen k len W) L M (hl.0 ∙ sym hm.0) hl.1 hm.1

pub one_push : OnePush
one_push k len W v L M hl hm = one_by (Pushed k len W v) (one_first k len W (λ y. Before k len W y v)) L M (hl.0 ∙ sym hm.0) hl.1 hm.1

-- a list in which each is ready
module _ (k : ℕ) (len : Lengths) (W : Edges) (L : List Move) (h : EachBy (Ready k len W) L) where
  ready_on : (x : Move) → In L x → On k len x
  ready_on x i = let r = in_at none L x i in subst (On k len) r.2 (h r.0 r.1).0.0

  ready_once : (x : Move) → Earlier L x x → ⊥
  ready_once x e = let r = earlier_at none L x x e in (h r.0 r.1).0.1 (subst (In (take r.0 L)) (sym r.2) r.3)

  ready_behind : (x y : Move) → In L x → Before k len W y x → (y ≡ x → ⊥) → Earlier L y x
  ready_behind x y i b ne =
      let r = in_at none L x i in
      subst (Earlier L y) r.2
      (at_earlier none L r.0 y r.1 ((h r.0 r.1).1 y (subst (Before k len W y) (sym r.2) b) (λ e. ne (e ∙ r.2))))

  -- what is before one of them is one of them
  pub ready_closed : (x y : Move) → In L x → Before k len W y x → In L y
  ready_closed x y i b = elim (same_move y x) [ yes e ↦ subst (In L) (sym e) i | no ne ↦ in_first L y x (ready_behind x y i b ne) ]

  ready_each : length L ≡ total k len → (x : Move) → On k len x → In L x
  ready_each e x on =
      elim (in_dec same_move L x) [
        | yes i ↦ i
        | no q ↦ let g : ⊥ = omega (arith, e, length_rows k len, no_longer (x ∷ L) (rows k len) (once' q) (sub on)) in absurd g
      ]
    where
      once' : (In L x → ⊥) → (y : Move) → Earlier (x ∷ L) y y → ⊥
      once' q y (inl g) = q (subst (In L) (sym g.0) g.1)
      once' q y (inr g) = ready_once y g

      sub : On k len x → (y : Move) → In (x ∷ L) y → In (rows k len) y
      sub on y (inl g) = (starts k len).each y (subst (On k len) g on)
      sub on y (inr g) = (starts k len).each y (ready_on y g)

  pub ready_runs : Ordered k len W → length L ≡ total k len → Running k len W L
  ready_runs o e = record {
    each = ready_each e;
    only = ready_on;
    once = ready_once;
    rising = λ s i j a b c. ready_behind (s, j) (s, i) (ready_each e (s, j) (a, c)) (along k len W s i j a (omega arith) c) (λ g. omega (arith, ap (λ m. m.1) g));
    follows = λ u v w. ready_behind v u (ready_each e v (fits k len W o.0 o.1 u v w).1) (onward (inr w) (there refl)) (λ g. o.1.once u (subst (Earlier o.0 u) (sym g) (o.1.follows u v w)));
  }

-- a move with nothing missing before it is ready
pub made_ready : (k : ℕ) (len : Lengths) (W : Edges) (P : List Move) (y : Move) → On k len y → (In P y → ⊥)
    → ((z : Move) → Before k len W z y → (z ≡ y → ⊥) → In P z) → Ready k len W P y
made_ready k len W P y on out back = ((on, out, λ i l. back (y.0, i) (along k len W y.0 i y.1 on.0 (omega arith) on.1) (λ e. omega (arith, ap (λ m. m.1) e))), back)

pub running_ready : (k : ℕ) (len : Lengths) (W : Edges) (L : List Move) → Running k len W L → EachBy (Ready k len W) L
running_ready k len W L R p l =
    let x = get_or L p none in
    made_ready k len W (take p L) x (R.only x (at_in none L p l)) (λ i. R.once x (at_earlier none L p x l i))
    (λ y b ne. back_in none L R.once p l y (sound k len W L R y x b ne))

pub stepwise : Stepwise
stepwise k len W o L = (λ R. (counted k len W L R, running_ready k len W L R), λ h. ready_runs k len W L h.1 o h.0)

pub list_runs : ListRuns
list_runs k len W o L h = ready_runs k len W L (λ p l. (h.1 p l).0) o h.0

pub push_runs : PushRuns
push_runs k len W o v L h = ready_runs k len W L (λ p l. first_ready k len W (λ y. Before k len W y v) (take p L) (get_or L p none) (h.1 p l)) o h.0

pub push_first : PushFirst
push_first k len W o v on L h x y bx ony nb =
    let R = push_runs k len W o v L h in
    let r = in_at none L y (R.each y ony) in
    subst (Earlier L x) r.2 (at_earlier none L r.0 x r.1 (go (take r.0 L) (get_or L r.0 none) r.2 (h.1 r.0 r.1)))
  where
    go : (P : List Move) (z : Move) → z ≡ y → Pushed k len W v P z → In P x
    go P z e (inl g) = absurd (nb (subst (λ q. Before k len W q v) e g.0))
    go P z e (inr g) = g.0 x (on_before k len W o.0 o.1 bx on) bx
