-- Which waits a list holds, with one more and with one less.
use Rattle.std.proofs.Common.{◌≡◌, ℕ, suc, Bool, true, false, not, ◌&&◌, ◌||◌, eqb, ◌⊎◌, [], ◌∷◌, length, Some, sym, refl, ap, ◌∙◌, subst, inl, inr, ⊎_elim, arith}
use Rattle.std.proofs.lemmas.Bool.{cases_Bool, cases_eq, eq-eqb, ne_eqb, eqb-true}
use Rattle.tables.specs.Meaning.{same_cell}
use Rattle.stores.specs.Holding.{same_wait}
use Rattle.words.specs.Codes.{move_of}
use Rattle.order.specs.Lists.{In}
use Rattle.order.specs.Board.{Move}
use Rattle.order.specs.Rounds.{sooner}
use Rattle.board.specs.Standing.{Waits, same_move, is_wait, holds, without, Single, cells_of}

pub and_true : (a b : Bool) → a && b ≡ true → (a ≡ true) × (b ≡ true)
and_true true b e = (refl, e)
and_true false b e = let z : ◌≡◌ {A = ℕ} 0 1 = cc in absurd (omega arith)

pub or_true : (a b : Bool) → a || b ≡ true → (a ≡ true) ⊎ (b ≡ true)
or_true true b e = inl refl
or_true false b e = inr e

or_right : (a b : Bool) → b ≡ true → a || b ≡ true
or_right true b e = refl
or_right false b e = e

same_is : (x y : Move) → same_move x y ≡ true → x ≡ y
same_is x y e =
    let p = and_true (eqb x.0 y.0) (eqb x.1 y.1) e in
    let a = eqb-true x.0 y.0 p.0 in
    let c = eqb-true x.1 y.1 p.1 in
    λ i. (a i, c i)

same_refl : (x : Move) → same_move x x ≡ true
same_refl x = rw (eq-eqb x.0 x.0 refl, eq-eqb x.1 x.1 refl)

pub wait_is : (w : Move × Move) (u v : Move) → is_wait w u v ≡ true → w ≡ (u, v)
wait_is w u v e =
    let p = and_true (same_move w.0 u) (same_move w.1 v) e in
    let a = same_is w.0 u p.0 in
    let c = same_is w.1 v p.1 in
    λ i. (a i, c i)

pub wait_refl : (u v : Move) → is_wait (u, v) u v ≡ true
wait_refl u v = rw (same_refl u, same_refl v)

pub holds_in : (W : Waits) (u v : Move) → holds W u v ≡ true → In W (u, v)
holds_in [] u v e = let z : ◌≡◌ {A = ℕ} 0 1 = cc in omega arith
holds_in (w ∷ W) u v e = elim (or_true (is_wait w u v) (holds W u v) e) [ inl a ↦ inl (wait_is w u v a) | inr a ↦ inr (holds_in W u v a) ]

pub in_holds : (W : Waits) (u v : Move) → In W (u, v) → holds W u v ≡ true
in_holds [] u v h = absurd h
in_holds (w ∷ W) u v (inl e) = let F : Move × Move → Type 0 = λ x. is_wait x u v || holds W u v ≡ true in subst F (sym e) (rw (wait_refl u v))
in_holds (w ∷ W) u v (inr h) = or_right (is_wait w u v) (holds W u v) (in_holds W u v h)

-- codes and moves are told apart alike
pub same_code : (u a : ℕ) → same_move (move_of u) (move_of a) ≡ eqb u a
same_code u a =
    ⊎_elim
    (λ (e : u ≡ a). ap (λ x. same_move (move_of u) (move_of x)) (sym e) ∙ same_refl (move_of u) ∙ sym (eq-eqb u a e))
    (λ ne. differs (cases_Bool (same_move (move_of u) (move_of a))) ne)
    (cases_eq u a)
  where
    differs : (same_move (move_of u) (move_of a) ≡ true) ⊎ (same_move (move_of u) (move_of a) ≡ false) → (u ≡ a → ⊥) → same_move (move_of u) (move_of a) ≡ eqb u a
    differs (inl t) ne = let q = same_is (move_of u) (move_of a) t in absurd (ne (omega (arith, ap (λ x. x.0) q, ap (λ x. x.1) q)))
    differs (inr t) ne = t ∙ sym (ne_eqb u a ne)

pub same_waits : (u v a c : ℕ) → is_wait (move_of u, move_of v) (move_of a) (move_of c) ≡ same_wait u v a c
same_waits u v a c = rw (same_code u a, same_code v c)

-- a cell is that of a wait exactly where its numbers are
pub same_cell_is : (s t i a b c : ℕ) → same_cell s t i a b c ≡ true → (a ≡ s) × (b ≡ t) × (c ≡ i)
same_cell_is s t i a b c e =
    let p = and_true (eqb a s && eqb b t) (eqb c i) e in
    let q = and_true (eqb a s) (eqb b t) p.0 in
    (eqb-true a s q.0, eqb-true b t q.1, eqb-true c i p.1)

-- one less

or_false : (a b : Bool) → a || b ≡ false → (a ≡ false) × (b ≡ false)
or_false true b e = let z : ◌≡◌ {A = ℕ} 0 1 = cc in absurd (omega arith)
or_false false b e = (refl, e)

and_none : (x : Bool) → x && false ≡ false
and_none true = refl
and_none false = refl

not_or : (x y : Bool) → not x && (x || y) ≡ not x && y
not_or true y = refl
not_or false y = refl

module _ (u v : Move) where
  pub holds_without : (W : Waits) (a c : Move) → holds (without W u v) a c ≡ not (is_wait (u, v) a c) && holds W a c
  holds_without [] a c = sym (and_none (not (is_wait (u, v) a c)))
  holds_without (w ∷ W) a c = elim (cases_Bool (is_wait w u v)) [ inl t ↦ gone t (holds_without W a c) | inr t ↦ here t (holds_without W a c) ]
    where
      gone : is_wait w u v ≡ true → holds (without W u v) a c ≡ not (is_wait (u, v) a c) && holds W a c
          → holds (without (w ∷ W) u v) a c ≡ not (is_wait (u, v) a c) && holds (w ∷ W) a c
      gone t h =
          rw t
          (h ∙ sym (not_or (is_wait (u, v) a c) (holds W a c)) ∙ ap (λ x. not (is_wait (u, v) a c) && (is_wait x a c || holds W a c)) (sym (wait_is w u v t)))

      here : is_wait w u v ≡ false → holds (without W u v) a c ≡ not (is_wait (u, v) a c) && holds W a c
          → holds (without (w ∷ W) u v) a c ≡ not (is_wait (u, v) a c) && holds (w ∷ W) a c
      here t h = rw t (ap (λ x. is_wait w a c || x) h ∙ split (cases_Bool (is_wait (u, v) a c)))
        where
          split : (is_wait (u, v) a c ≡ true) ⊎ (is_wait (u, v) a c ≡ false) → is_wait w a c || (not (is_wait (u, v) a c) && holds W a c) ≡ not (is_wait (u, v) a c) && (is_wait w a c || holds W a c)
          split (inl e) =
              let q : is_wait w a c ≡ false = sym (ap (λ x. is_wait w x.0 x.1) (wait_is (u, v) a c e)) ∙ t in
              rw (e, q)
          split (inr e) = rw e

  pub without_in : (W : Waits) (w : Move × Move) → In (without W u v) w → In W w
  without_in [] w h = h
  without_in (x ∷ W) w h =
      elim (cases_Bool (is_wait x u v)) [
        | inl t ↦ inr (without_in W w (gone t h))
        | inr t ↦ elim (kept t h) [ inl e ↦ inl e | inr g ↦ inr (without_in W w g) ]
      ]
    where
      gone : is_wait x u v ≡ true → In (without (x ∷ W) u v) w → In (without W u v) w
      gone t g = rw t at g

      kept : is_wait x u v ≡ false → In (without (x ∷ W) u v) w → (x ≡ w) ⊎ In (without W u v) w
      kept t g = rw t at g

  without_none : (W : Waits) → holds W u v ≡ false → without W u v ≡ W
  without_none [] e = refl
  without_none (w ∷ W) e =
      let p = or_false (is_wait w u v) (holds W u v) e in
      rw p.0 (ap (λ l. w ∷ l) (without_none W p.1))

  pub length_without : (W : Waits) → Single W → holds W u v ≡ true → suc (length (without W u v)) ≡ length W
  length_without [] s h = let z : ◌≡◌ {A = ℕ} 0 1 = cc in absurd (omega arith)
  length_without (w ∷ W) s h = elim (cases_Bool (is_wait w u v)) [ inl t ↦ gone t | inr t ↦ here t (λ g. length_without W s.1 g) ]
    where
      gone : is_wait w u v ≡ true → suc (length (without (w ∷ W) u v)) ≡ length (w ∷ W)
      gone t = rw t (ap (λ l. suc (length l)) (without_none W (ap (λ x. holds W x.0 x.1) (sym (wait_is w u v t)) ∙ s.0)))

      here : is_wait w u v ≡ false → (holds W u v ≡ true → suc (length (without W u v)) ≡ length W) → suc (length (without (w ∷ W) u v)) ≡ length (w ∷ W)
      here t f = rw t (ap suc (f (rw t at h)))

  pub single_without : (W : Waits) → Single W → Single (without W u v)
  single_without [] s = s
  single_without (w ∷ W) s = elim (cases_Bool (is_wait w u v)) [ inl t ↦ gone t (single_without W s.1) | inr t ↦ here t (single_without W s.1) ]
    where
      gone : is_wait w u v ≡ true → Single (without W u v) → Single (without (w ∷ W) u v)
      gone t h = rw t h

      here : is_wait w u v ≡ false → Single (without W u v) → Single (without (w ∷ W) u v)
      here t h = rw t (holds_without W w.0 w.1 ∙ ap (λ x. not (is_wait (u, v) w.0 w.1) && x) s.0 ∙ and_none (not (is_wait (u, v) w.0 w.1)), h)

  -- the cell of the removed wait aside, the cells are the same
  pub cells_without : (W : Waits) (a b c : ℕ) → same_cell u.0 v.0 u.1 a b c ≡ false → cells_of (without W u v) a b c ≡ cells_of W a b c
  cells_without [] a b c e = refl
  cells_without (w ∷ W) a b c e =
      elim (cases_Bool (is_wait w u v)) [ inl t ↦ gone t (cells_without W a b c e) | inr t ↦ here t (cells_without W) (cases_Bool (same_cell w.0.0 w.1.0 w.0.1 a b c)) ]
    where
      gone : is_wait w u v ≡ true → cells_of (without W u v) a b c ≡ cells_of W a b c → cells_of (without (w ∷ W) u v) a b c ≡ cells_of (w ∷ W) a b c
      gone t h =
          let q : same_cell w.0.0 w.1.0 w.0.1 a b c ≡ false = ap (λ (x : Move × Move). same_cell x.0.0 x.1.0 x.0.1 a b c) (wait_is w u v t) ∙ e in
          rw (t, q) h

      here : is_wait w u v ≡ false
          → ((d g h : ℕ) → same_cell u.0 v.0 u.1 d g h ≡ false → cells_of (without W u v) d g h ≡ cells_of W d g h)
          → (same_cell w.0.0 w.1.0 w.0.1 a b c ≡ true) ⊎ (same_cell w.0.0 w.1.0 w.0.1 a b c ≡ false)
          → cells_of (without (w ∷ W) u v) a b c ≡ cells_of (w ∷ W) a b c
      here t h (inr q) = rw (t, q) (h a b c e)
      here t h (inl q) =
          let p = same_cell_is w.0.0 w.1.0 w.0.1 a b c q in
          let e' : same_cell u.0 v.0 u.1 w.0.0 w.1.0 w.0.1 ≡ false =
          ap (λ x. same_cell u.0 v.0 u.1 x w.1.0 w.0.1) (sym p.0) ∙ ap (λ x. same_cell u.0 v.0 u.1 a x w.0.1) (sym p.1)
          ∙ ap (λ x. same_cell u.0 v.0 u.1 a b x) (sym p.2) ∙ e in
          rw (t, q) (ap (λ o. sooner o (Some w.1.1)) (h w.0.0 w.1.0 w.0.1 e'))
