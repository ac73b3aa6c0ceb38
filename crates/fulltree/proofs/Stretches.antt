-- What a write to one stretch leaves of the buffer.
use Rattle.std.proofs.Common.{◌≡◌, ℕ, ◌+◌, ◌-◌, ◌*◌, ◌<◌, ◌≤◌, ◌≢◌, ◌⊎◌, List, ◌++◌, length, get_or, take, drop, sym, refl, ap, ◌∙◌, ⊎_elim, arith}
use borrow.Rule.Slice.PartMut.{put_mid}
use Rattle.std.proofs.lemmas.List.Edits.{length-between, get_or-between}
use Rattle.std.proofs.lemmas.List.{drop-drop, length-append, length-take, length-take-le, length-drop, get_or-take, get_or-drop, get_or_append_left, get_or-append_right}
use Rattle.std.proofs.lemmas.Slice.{between_is, between-put_mid, drop-put_mid, take-put_mid_below}
use Rattle.std.proofs.lemmas.Bool.{cases_order}
use Rattle.tables.specs.Plain.{decoded}
use Rattle.fulltree.specs.Tree.{leaf, stored}
use Rattle.fulltree.specs.Full.{stretch, with_stretch, pair_of, full_stored}
use Rattle.fulltree.specs.FullLaws.{stretch_fits}

pub length_stretch : (w : ℕ) (cs : List ℕ) (q : ℕ) → q * w + w ≤ length cs → length (stretch w cs q) ≡ w
unfolding stretch
length_stretch w cs q long = length-between cs (q * w) (q * w + w) long ∙ omega arith

-- the number c of the stretch q
pub stretch_number : (w : ℕ) (cs : List ℕ) (q c : ℕ) → c < w → get_or (stretch w cs q) c 0 ≡ get_or cs (q * w + c) 0
unfolding stretch
stretch_number w cs q c l = get_or-between cs (q * w) (q * w + w) c 0 (omega arith)

-- where the leaf of the place i lies in the buffer
pub leaf_number : (p : ℕ) (cs : List ℕ) (q i a l : ℕ) → a ≡ q * (2 * p) → l ≡ p + i → i < p → decoded (get_or cs (a + l) 0) ≡ leaf p (stretch (2 * p) cs q) i
leaf_number p cs q i a l at leaf_at_lem less = rw (at, leaf_at_lem) (ap decoded (sym (stretch_number (2 * p) cs q (p + i) (omega arith))))

mid : (w : ℕ) (cs row : List ℕ) (q : ℕ) → put_mid (q * w) w cs row ≡ with_stretch w cs q row
unfolding with_stretch
mid w cs row q = ap (λ x. take (q * w) cs ++ (row ++ x)) (drop-drop w (q * w) cs)

-- the part that is lent from a on is the stretch q, and so what it holds afterwards stands in its place
module _ (w : ℕ) (cs : List ℕ) (q a x : ℕ) (at : a ≡ q * w) (wide : x ≡ w) where
  pub lent_is : take (a + x - a) (drop a cs) ≡ stretch w cs q
  unfolding stretch
  lent_is =
      let e : q * w + w - q * w ≡ w = omega arith in
      rw (at, wide, e)

  pub lent_back : (row : List ℕ) → put_mid a (a + x - a) cs row ≡ with_stretch w cs q row
  lent_back row =
      let e : q * w + w - q * w ≡ w = omega arith in
      rw (at, wide, e) (mid w cs row q)

module _ (w : ℕ) (cs row : List ℕ) (q : ℕ) (long : q * w + w ≤ length cs) (wide : length row ≡ w) where
  pub stretch_same : stretch w (with_stretch w cs q row) q ≡ row
  unfolding stretch
  stretch_same = rw (← mid w cs row q) (between-put_mid (q * w) w cs row (q * w + w) (omega arith) (omega arith))

  pub stretch_other : (p : ℕ) → p ≢ q → stretch w (with_stretch w cs q row) p ≡ stretch w cs p
  unfolding stretch
  stretch_other p ne =
      rw (← mid w cs row q)
      (⊎_elim
      (λ (e : p ≡ q). absurd (ne e))
      (⊎_elim
      (λ (l : p < q).
      let m : p * w + w ≤ q * w = stretch_fits q w p l in
      between_is (put_mid (q * w) w cs row) (p * w) (p * w + w) ∙ ap (drop (p * w)) (take-put_mid_below (q * w) w cs row (p * w + w) m (omega arith)) ∙ sym (between_is cs (p * w) (p * w + w)))
      (λ (l : q < p).
      let m : q * w + w ≤ p * w = stretch_fits p w q l in
      ap (take (p * w + w - p * w)) (drop-put_mid (q * w) w cs row (p * w) m (omega arith) wide)))
      (cases_order p q))

  pub length_with_stretch : length (with_stretch w cs q row) ≡ length cs
  unfolding with_stretch
  length_with_stretch = simp (length-append, length-take, length-drop) (omega arith)

  -- each number before the stretch and behind it stays
  pub number_stays : (c : ℕ) → (c < q * w) ⊎ (q * w + w ≤ c) → get_or (with_stretch w cs q row) c 0 ≡ get_or cs c 0
  unfolding with_stretch
  number_stays c out =
      let front : length (take (q * w) cs) ≡ q * w = length-take-le (q * w) cs (omega arith) in
      ⊎_elim
      (λ (l : c < q * w). get_or_append_left (take (q * w) cs) (row ++ drop (q * w + w) cs) 0 c (omega arith) ∙ get_or-take (q * w) cs c 0 l)
      (λ (l : q * w + w ≤ c).
      get_or-append_right (take (q * w) cs) (row ++ drop (q * w + w) cs) (q * w) c 0 front (omega arith)
      ∙ get_or-append_right row (drop (q * w + w) cs) w (c - q * w) 0 wide (omega arith)
      ∙ get_or-drop (q * w + w) cs (c - q * w - w) 0
      ∙ ap (λ x. get_or cs x 0) (omega arith))
      out

-- what a write to the lent stretch of a pair leaves
pub stored_back : (k p : ℕ) (cs : List ℕ) (s t i v a x : ℕ) (row : List ℕ) → a ≡ pair_of k s t * (2 * p) → x ≡ v → row ≡ stored p (take (a + 2 * p - a) (drop a cs)) i x → put_mid a (a + 2 * p - a) cs row ≡ full_stored k p cs s t i v
stored_back k p cs s t i v a x row at is e =
    let q = pair_of k s t in
    lent_back (2 * p) cs q a (2 * p) at refl row ∙ ap (with_stretch (2 * p) cs q) (e ∙ ap (λ y. stored p y i x) (lent_is (2 * p) cs q a (2 * p) at refl) ∙ ap (stored p (stretch (2 * p) cs q) i) is)
