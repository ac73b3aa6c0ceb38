-- A round leaves a row as it is, or lowers its weight. So rounds come to an end, whatever the table answers.
use Rattle.std.proofs.Common.{◌≡◌, ℕ, zero, suc, ◌+◌, ◌-◌, ◌*◌, ◌<◌, ◌≤◌, Bool, true, false, cond, eqb, ◌⊎◌, [], ◌∷◌, length, set, replicate, Some, None, Option, sym, refl, ap, ◌∙◌, subst, inl, inr, ⊎_elim, suc-mul, arith}
use Rattle.std.proofs.lemmas.Bool.{cases_lt}
use Rattle.order.specs.Rounds.{Table, Row, entry, via, relaxed, pulled, swept}
use Rattle.questions.specs.declared.rounds.Way.{Way}
use Rattle.questions.specs.declared.rounds.Way.TheVariants.{After, Before}
use Rattle.questions.specs.Looking.{pick_of, Under, Places}

-- how far an entry can still go: down to 0 after a move, up to n - 1 before it
abbrev pub toll : Way → ℕ → Option ℕ → ℕ
toll w n None = n
toll After n (Some p) = p
toll Before n (Some p) = n - (p + 1)

abbrev pub weight : Way → ℕ → Row → ℕ
weight w n [] = 0
weight w n (x ∷ xs) = toll w n x + weight w n xs

-- y is x, or weighs less
abbrev Less : {A : Type 0} → (A → ℕ) → A → A → Type 0
Less v x y = (y ≡ x) ⊎ (v y < v x)

less_trans : {A : Type 0} (v : A → ℕ) (x y z : A) → Less v x y → Less v y z → Less v x z
less_trans v x y z (inl e) (inl d) = inl (d ∙ e)
less_trans v x y z (inl e) (inr d) = inr (rw e at d)
less_trans v x y z (inr e) (inl d) = inr (rw d e)
less_trans v x y z (inr e) (inr d) = inr (omega arith)

less_pick : (w : Way) (n : ℕ) (a b : Option ℕ) → Under n b → Less (toll w n) a (pick_of w a b)
less_pick After n None None u = inl refl
less_pick Before n None None u = inl refl
less_pick After n None (Some y) u = inr u
less_pick Before n None (Some y) u = inr (omega arith)
less_pick After n (Some x) None u = inl refl
less_pick Before n (Some x) None u = inl refl
less_pick After n (Some x) (Some y) u = ⊎_elim (λ h. inr (omega arith)) (λ h. inl (ap Some (omega arith))) (cases_lt y x)
less_pick Before n (Some x) (Some y) u = ⊎_elim (λ h. inr (omega arith)) (λ h. inl (ap Some (omega arith))) (cases_lt x y)

less_set : (w : Way) (n : ℕ) (row : Row) (q : ℕ) (o : Option ℕ) → Less (toll w n) (entry row q) o → Less (weight w n) row (set row q o)
less_set w n [] q o l = inl refl
less_set w n (x ∷ xs) zero o (inl e) = inl (ap (λ y. y ∷ xs) e)
less_set w n (x ∷ xs) zero o (inr h) = inr (omega arith)
less_set w n (x ∷ xs) (suc q) o l = ⊎_elim (λ e. inl (ap (λ ys. x ∷ ys) e)) (λ h. inr (omega arith)) (less_set w n xs q o l)

under_pick : (w : Way) (n : ℕ) (a b : Option ℕ) → Under n a → Under n b → Under n (pick_of w a b)
under_pick After n None b g h = h
under_pick Before n None b g h = h
under_pick After n (Some x) None g h = g
under_pick Before n (Some x) None g h = g
under_pick After n (Some x) (Some y) g h = omega arith
under_pick Before n (Some x) (Some y) g h = omega arith

pub under_by : (n : ℕ) {a b : Option ℕ} → a ≡ b → Under n b → Under n a
under_by n e h = subst (Under n) (sym e) h

pub places_none : (n l : ℕ) → Places n (replicate l None)
places_none n zero y = tt
places_none n (suc l) zero = tt
places_none n (suc l) (suc y) = places_none n l y

pub places_set : (n : ℕ) (xs : Row) (q : ℕ) (o : Option ℕ) → Under n o → Places n xs → Places n (set xs q o)
places_set n [] q o u h y = h y
places_set n (x ∷ xs) zero o u h zero = u
places_set n (x ∷ xs) zero o u h (suc y) = h (suc y)
places_set n (x ∷ xs) (suc q) o u h zero = h zero
places_set n (x ∷ xs) (suc q) o u h (suc y) = places_set n xs q o u (λ z. h (suc z)) y

module _ (w : Way) (n : ℕ) (f : Table) (under : (r q p : ℕ) → Under n (f r q p)) where
  under_via : (r q : ℕ) (o : Option ℕ) → Under n (via (f r q) o)
  under_via r q None = tt
  under_via r q (Some p) = under r q p

  relaxed_less : (xs : Row) (q r : ℕ) → Less (weight w n) xs (relaxed (pick_of w) f xs q r)
  relaxed_less xs q r = less_set w n xs q _ (less_pick w n (entry xs q) (via (f r q) (entry xs r)) (under_via r q (entry xs r)))

  pulled_less : (xs : Row) (q r : ℕ) → Less (weight w n) xs (pulled (pick_of w) f xs q r)
  pulled_less xs q zero = inl refl
  pulled_less xs q (suc r) = go (eqb r q) (pulled_less xs q r)
    where
      go : (b : Bool) → Less (weight w n) xs (pulled (pick_of w) f xs q r)
          → Less (weight w n) xs (cond b (pulled (pick_of w) f xs q r) (relaxed (pick_of w) f (pulled (pick_of w) f xs q r) q r))
      go true h = h
      go false h = less_trans (weight w n) xs _ _ h (relaxed_less (pulled (pick_of w) f xs q r) q r)

  pub swept_less : (k s : ℕ) (xs : Row) (q : ℕ) → Less (weight w n) xs (swept (pick_of w) f k s xs q)
  swept_less k s xs zero = inl refl
  swept_less k s xs (suc q) = go (eqb q s) (swept_less k s xs q)
    where
      go : (b : Bool) → Less (weight w n) xs (swept (pick_of w) f k s xs q)
          → Less (weight w n) xs (cond b (swept (pick_of w) f k s xs q) (pulled (pick_of w) f (swept (pick_of w) f k s xs q) q k))
      go true h = h
      go false h = less_trans (weight w n) xs _ _ h (pulled_less (swept (pick_of w) f k s xs q) q k)

  relaxed_places : (xs : Row) (q r : ℕ) → Places n xs → Places n (relaxed (pick_of w) f xs q r)
  relaxed_places xs q r h = places_set n xs q _ (under_pick w n (entry xs q) _ (h q) (under_via r q (entry xs r))) h

  pulled_places : (xs : Row) (q r : ℕ) → Places n xs → Places n (pulled (pick_of w) f xs q r)
  pulled_places xs q zero h = h
  pulled_places xs q (suc r) h = go (eqb r q) (pulled_places xs q r h)
    where
      go : (b : Bool) → Places n (pulled (pick_of w) f xs q r)
          → Places n (cond b (pulled (pick_of w) f xs q r) (relaxed (pick_of w) f (pulled (pick_of w) f xs q r) q r))
      go true g = g
      go false g = relaxed_places (pulled (pick_of w) f xs q r) q r g

  pub swept_places : (k s : ℕ) (xs : Row) (q : ℕ) → Places n xs → Places n (swept (pick_of w) f k s xs q)
  swept_places k s xs zero h = h
  swept_places k s xs (suc q) h = go (eqb q s) (swept_places k s xs q h)
    where
      go : (b : Bool) → Places n (swept (pick_of w) f k s xs q)
          → Places n (cond b (swept (pick_of w) f k s xs q) (pulled (pick_of w) f (swept (pick_of w) f k s xs q) q k))
      go true g = g
      go false g = pulled_places (swept (pick_of w) f k s xs q) q k g

toll_le : (w : Way) (n : ℕ) (o : Option ℕ) → Under n o → toll w n o ≤ n
toll_le After n None u = omega arith
toll_le Before n None u = omega arith
toll_le After n (Some p) u = omega arith
toll_le Before n (Some p) u = omega arith

pub weight_le : (w : Way) (n : ℕ) (row : Row) → Places n row → weight w n row ≤ length row * n
weight_le w n [] v = omega arith
weight_le w n (x ∷ xs) v = omega (arith, suc-mul (length xs) n, toll_le w n x (v 0), weight_le w n xs (λ r. v (suc r)))
