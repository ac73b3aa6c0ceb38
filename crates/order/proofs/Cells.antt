-- Cells that keep the edges.
use Rattle.std.proofs.Common.{◌≡◌, ℕ, ◌<◌, ◌≤◌, Bool, true, false, cond, ◌&&◌, eqb, ◌⊎◌, ◌∷◌, Some, None, Option, sym, refl, ap, ◌∙◌, subst, inl, inr, arith, eqb-true}
use native.Mathlib.Decide.{dec_le}
use borrow.Author.Tests.{eqb-false}
use Rattle.order.specs.Lists.{In}
use Rattle.order.specs.Board.{Move, Lengths, Edges, Fits, Short}
use Rattle.order.specs.Rounds.{Table, LeastOf, GreatestOf, sooner}
use Rattle.order.specs.Cells.{CellOf, Keeps, Smallest, Answers, Greatest, AnswersBack, renewed, Placing, Removing}

module _
    (k n : ℕ) (len : Lengths) (E : Edges) (short : Short k n len) (fits : Fits k len E) (s t : ℕ) (c : ℕ → Option ℕ)
    (keeps : (a : ℕ) → a < n → CellOf E s t a (c a))
  where
    low : (a b : ℕ) → In E ((s, a), (t, b)) → a < n
    low a b w = let h = (fits (s, a) (t, b) w).0 in omega (arith, h.1, short s h.0)

    -- an edge's cell holds a place at or before its second
    held : (a b : ℕ) → In E ((s, a), (t, b)) → (j : ℕ) × (c a ≡ Some j) × (j ≤ b)
    held a b w = go (c a) refl (keeps a (low a b w))
      where
        go : (o : Option ℕ) → c a ≡ o → CellOf E s t a o → (j : ℕ) × (c a ≡ Some j) × (j ≤ b)
        go None e h = absurd (h b w)
        go (Some j) e h = (j, e, h.1 b w)

    answer : (i : ℕ) (o : Option ℕ) → Smallest n c i o → LeastOf E s t i o
    answer i None h = λ a b w l. let g = held a b w in h a g.0 l (low a b w) g.1
    answer i (Some j) h =
        let x = h.0 in (
          (x.0, x.1, (subst (CellOf E s t x.0) x.3 (keeps x.0 x.2)).0),
          λ a b w l. let g = held a b w in omega (arith, g.2, h.1 a g.0 l (low a b w) g.1),
        )

    answer_back : (j : ℕ) (o : Option ℕ) → Greatest n c j o → GreatestOf E s t j o
    answer_back j None h = λ a b w l. let g = held a b w in h a g.0 (low a b w) g.1 (omega (arith, g.2))
    answer_back j (Some p) h =
        let x = h.0 in (
          (x.1.0, x.1.2, (subst (CellOf E s t p) x.1.1 (keeps p x.0)).0),
          λ a b w l. let g = held a b w in h.1 a g.0 (low a b w) g.1 (omega (arith, g.2)),
        )

pub answers_back : AnswersBack
answers_back k n len E short fits c g keeps scans s t j ls lt ne lj =
    answer_back k n len E short fits s t (c s t) (λ a la. keeps s t a ls lt ne la) j (g s t j) (scans s t j ls lt ne (omega (arith, short t lt)))

pub answers : Answers
answers k n len E short fits c f keeps scans s t i ls lt ne li =
    answer k n len E short fits s t (c s t) (λ a la. keeps s t a ls lt ne la) i (f s t i) (scans s t i ls lt ne (omega (arith, short s ls)))

-- two lists of edges that differ at most in u -> v
module _
    (E V : Edges) (u v : Move)
    (of_new : (w : Move × Move) → In V w → ((u, v) ≡ w) ⊎ In E w)
    (of_old : (w : Move × Move) → In E w → ((u, v) ≡ w) ⊎ In V w)
  where
    -- the cell of another pair or place
    beside : (s t i : ℕ) → ((b : ℕ) → ◌≡◌ {A = Move × Move} (u, v) ((s, i), (t, b)) → ⊥) → (o : Option ℕ) → CellOf E s t i o → CellOf V s t i o
    beside s t i ne None h = λ b w. elim (of_new ((s, i), (t, b)) w) [ inl e ↦ ne b e | inr g ↦ h b g ]
    beside s t i ne (Some j) h = (
      elim (of_old ((s, i), (t, j)) h.0) [ inl e ↦ absurd (ne j e) | inr g ↦ g ],
      λ b w. elim (of_new ((s, i), (t, b)) w) [ inl e ↦ absurd (ne b e) | inr g ↦ h.1 b g ],
    )

    renews : (k n : ℕ) (c : Table) → Keeps k n E c → (o : Option ℕ)
        → (u.0 < k → v.0 < k → (u.0 ≡ v.0 → ⊥) → u.1 < n → CellOf V u.0 v.0 u.1 o) → Keeps k n V (renewed c u v o)
    renews k n c keeps o here s t i ls lt ne li = go (eqb s u.0) (eqb t v.0) (eqb i u.1) refl refl refl
      where
        other : ((b : ℕ) → ◌≡◌ {A = Move × Move} (u, v) ((s, i), (t, b)) → ⊥) → CellOf V s t i (c s t i)
        other q = beside s t i q (c s t i) (keeps s t i ls lt ne li)

        own : u.0 ≡ s → v.0 ≡ t → u.1 ≡ i → CellOf V s t i o
        own d e g =
            subst (λ x. CellOf V x t i o) d (subst (λ x. CellOf V u.0 x i o) e (subst (λ x. CellOf V u.0 v.0 x o) g
            (here (omega arith) (omega arith) (λ q. ne (sym d ∙ q ∙ e)) (omega arith))))

        go : (x y z : Bool) → eqb s u.0 ≡ x → eqb t v.0 ≡ y → eqb i u.1 ≡ z → CellOf V s t i (cond (x && y && z) o (c s t i))
        go true true true d e g = own (sym (eqb-true s u.0 d)) (sym (eqb-true t v.0 e)) (sym (eqb-true i u.1 g))
        go true true false d e g = other (λ b q. eqb-false i u.1 g (sym (ap (λ z. z.0.1) q)))
        go true false z d e g = other (λ b q. eqb-false t v.0 e (sym (ap (λ z. z.1.0) q)))
        go false y z d e g = other (λ b q. eqb-false s u.0 d (sym (ap (λ z. z.0.0) q)))

-- the cell of the edge itself
itself : (E : Edges) (u v : Move) (o : Option ℕ) → CellOf E u.0 v.0 u.1 o → CellOf ((u, v) ∷ E) u.0 v.0 u.1 (sooner o (Some v.1))
itself E u v None h = (inl refl, λ b w. elim w [ inl e ↦ omega (arith, ap (λ z. z.1.1) e) | inr g ↦ absurd (h b g) ])
itself E u v (Some j) h = (
  elim (dec_le j v.1) [
    | yes l ↦ inr (subst (λ x. In E (u, (v.0, x))) (omega arith) h.0)
    | no l ↦ inl (ap (λ x. (u, (v.0, x))) (omega arith))
  ],
  λ b w. elim w [ inl e ↦ omega (arith, ap (λ z. z.1.1) e) | inr g ↦ omega (arith, h.1 b g) ],
)

pub placing : Placing
placing k n E c keeps u v =
    renews E ((u, v) ∷ E) u v (λ w h. h) (λ w h. inr (inr h)) k n c keeps (sooner (c u.0 v.0 u.1) (Some v.1))
    (λ lu lv ne li. itself E u v (c u.0 v.0 u.1) (keeps u.0 v.0 u.1 lu lv ne li))

pub removing : Removing
removing k n E V c keeps u v sub sup o here = renews E V u v (λ w h. inr (sub w h)) sup k n c keeps o (λ _ _ _ _. here)
