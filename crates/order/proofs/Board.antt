-- The laws of the order on a board.
use Rattle.std.proofs.Common.{◌≡◌, ℕ, zero, suc, ◌+◌, ◌-◌, ◌<◌, ◌≤◌, Bool, true, false, ◌⊎◌, List, ◌∷◌, sym, refl, ap, subst, inl, inr, arith}
use Rattle.order.specs.Lists.{In, Earlier, there, onward, parted}
use Rattle.order.specs.Board.{Lengths, Move, Edges, On, Step, Before, Running}
use Rattle.order.specs.Laws.{Decides, Sound, Removes, Places}
use Rattle.order.proofs.Lists.{earlier_trans, in_parted, in_of_parted, once_parted, earlier_apart, earlier_parted, reaches_trans, reaches_earlier}

module _ (k : ℕ) (len : Lengths) (E : Edges) where
  -- a shuttle's moves are before its later ones
  along_by : (s d i : ℕ) → s < k → i + d < len s → Before k len E (s, i) (s, i + d)
  along_by s zero i a b = there (ap (λ j. (s, j)) (omega arith))
  along_by s (suc d) i a b = onward (inl (a, omega arith, refl)) (subst (λ j. Before k len E (s, suc i) (s, j)) (omega arith) (along_by s d (suc i) a (omega arith)))

  pub along : (s i j : ℕ) → s < k → i ≤ j → j < len s → Before k len E (s, i) (s, j)
  along s i j a b c = subst (λ m. Before k len E (s, i) (s, m)) (omega arith) (along_by s (j - i) i a (omega arith))

  module _ (L : List Move) (R : Running k len E L) where
    pub steps_kept : (x y : Move) → Step k len E x y → Earlier L x y
    steps_kept x y (inl h) = subst (Earlier L x) (sym h.2) (R.rising x.0 x.1 (suc x.1) h.0 (omega arith) h.1)
    steps_kept x y (inr h) = R.follows x y h

    pub kept : (u v : Move) → Before k len E u v → (u ≡ v) ⊎ Earlier L u v
    kept u v p = reaches_earlier L R.once steps_kept p

    -- both ways round cannot be
    pub not_both : (u v : Move) → Earlier L u v → Earlier L v u → ⊥
    not_both u v p q = R.once u (earlier_trans L u v u R.once p q)

    -- what stands before u, and then the rest, is a running order too
    pub part_running : (u : Move) (B : Move → Bool) → Decides k len E B u → Running k len E (parted B L)
    part_running u B d = record {
      each = λ x h. in_parted B L x (R.each x h);
      only = λ x h. R.only x (in_of_parted B L x h);
      once = once_parted B L R.once;
      rising = λ s i j a b c. earlier_parted B L (s, i) (s, j) (down (s, i) (s, j) (along s i j a (omega arith) c)) (R.rising s i j a b c);
      follows = λ x y h. earlier_parted B L x y (down x y (onward (inr h) (there refl))) (R.follows x y h);
    }
      where
        down : (x y : Move) → Before k len E x y → B y ≡ true → B x ≡ true
        down x y p t = (d x).1 (reaches_trans p ((d y).0 t))

    decided_not : (u : Move) (B : Move → Bool) → Decides k len E B u → (x : Move) → (Before k len E x u → ⊥) → B x ≡ false
    decided_not u B d x no' = go (B x) refl
      where
        go : (b : Bool) → B x ≡ b → B x ≡ false
        go true p = absurd (no' ((d x).0 p))
        go false p = p

    pub part_apart : (u : Move) (B : Move → Bool) → Decides k len E B u → (v : Move) → On k len u → On k len v → (Before k len E v u → ⊥) → Earlier (parted B L) u v
    part_apart u B d v a b no' = earlier_apart B L u v ((d u).1 (there refl)) (decided_not u B d v no') (R.each u a) (R.each v b)

pub sound : Sound
sound k len E L R u v p ne = elim (kept k len E L R u v p) [ inl e ↦ absurd (ne e) | inr h ↦ h ]

pub removes : Removes
removes k len E V L R sub = record { each = R.each; only = R.only; once = R.once; rising = R.rising; follows = λ u v h. R.follows u v (sub (u, v) h) }

pub places : Places
places k len E L R u v a b B d no' =
    let Q = part_running k len E L R u B d in
    record { each = Q.each; only = Q.only; once = Q.once; rising = Q.rising; follows = go }
  where
    go : (x y : Move) → In ((u, v) ∷ E) (x, y) → Earlier (parted B L) x y
    go x y (inl e) = subst (λ (w : Move × Move). Earlier (parted B L) w.0 w.1) e (part_apart k len E L R u B d v a b no')
    go x y (inr h) = (part_running k len E L R u B d).follows x y h
