-- Rows that start alike stay alike in every round, so a question is settled in one number of rounds.
use Rattle.std.proofs.Common.{◌≡◌, ℕ, zero, suc, ◌<◌, ◌≤◌, Bool, true, false, cond, eqb, length, set, None, Option, sym, ap, ◌∙◌, subst, arith, length-set, get_or-set_other, get_or-set_same}
use native.Mathlib.Decide.{dec_lt, ℕ_discrete}
use Rattle.order.specs.Rounds.{Table, Pick, Row, entry, via, relaxed, pulled, swept, rounds, Begins, Settled, Ran}
use Rattle.order.proofs.Rounds.{same_rows}

module _ (pick : Pick) (f : Table) (k : ℕ) where
  -- the entries of the k shuttles are the same; a row may have more
  abbrev Alike : Row → Row → Type 0
  Alike xs ys = (k ≤ length xs) × (k ≤ length ys) × ((q : ℕ) → q < k → entry xs q ≡ entry ys q)

  set_alike : (xs ys : Row) (q : ℕ) (v w : Option ℕ) → q < k → v ≡ w → Alike xs ys → Alike (set xs q v) (set ys q w)
  set_alike xs ys q v w lq e h = (omega (arith, length-set xs q v, h.0), omega (arith, length-set ys q w, h.1), go)
    where
      go : (x : ℕ) → x < k → entry (set xs q v) x ≡ entry (set ys q w) x
      go x lx =
          elim (ℕ_discrete x q) [
            | yes d ↦ subst (λ z. entry (set xs q v) z ≡ entry (set ys q w) z) (sym d)
                (get_or-set_same xs q v None (omega (arith, h.0)) ∙ e ∙ sym (get_or-set_same ys q w None (omega (arith, h.1))))
            | no d ↦ get_or-set_other xs q x v None d ∙ h.2 x lx ∙ sym (get_or-set_other ys q x w None d)
          ]

  relaxed_alike : (xs ys : Row) (q r : ℕ) → q < k → r < k → Alike xs ys → Alike (relaxed pick f xs q r) (relaxed pick f ys q r)
  relaxed_alike xs ys q r lq lr h =
      set_alike xs ys q _ _ lq (ap (λ a. pick a (via (f r q) (entry xs r))) (h.2 q lq) ∙ ap (λ a. pick (entry ys q) (via (f r q) a)) (h.2 r lr)) h

  pulled_alike : (xs ys : Row) (q m : ℕ) → q < k → m ≤ k → Alike xs ys → Alike (pulled pick f xs q m) (pulled pick f ys q m)
  pulled_alike xs ys q zero lq l h = h
  pulled_alike xs ys q (suc m) lq l h = go (eqb m q) (pulled_alike xs ys q m lq (omega arith) h)
    where
      go : (b : Bool) → Alike (pulled pick f xs q m) (pulled pick f ys q m)
          → Alike (cond b (pulled pick f xs q m) (relaxed pick f (pulled pick f xs q m) q m)) (cond b (pulled pick f ys q m) (relaxed pick f (pulled pick f ys q m) q m))
      go true e = e
      go false e = relaxed_alike (pulled pick f xs q m) (pulled pick f ys q m) q m lq (omega arith) e

  module _ (s : ℕ) where
    swept_alike : (xs ys : Row) (m : ℕ) → m ≤ k → Alike xs ys → Alike (swept pick f k s xs m) (swept pick f k s ys m)
    swept_alike xs ys zero l h = h
    swept_alike xs ys (suc m) l h = go (eqb m s) (swept_alike xs ys m (omega arith) h)
      where
        go : (b : Bool) → Alike (swept pick f k s xs m) (swept pick f k s ys m)
            → Alike (cond b (swept pick f k s xs m) (pulled pick f (swept pick f k s xs m) m k)) (cond b (swept pick f k s ys m) (pulled pick f (swept pick f k s ys m) m k))
        go true e = e
        go false e = pulled_alike (swept pick f k s xs m) (swept pick f k s ys m) m k (omega arith) (omega arith) e

    rounds_alike : (xs ys : Row) (m : ℕ) → Alike xs ys → Alike (rounds pick f k s xs m) (rounds pick f k s ys m)
    rounds_alike xs ys zero h = h
    rounds_alike xs ys (suc m) h = swept_alike (rounds pick f k s xs m) (rounds pick f k s ys m) k (omega arith) (rounds_alike xs ys m h)

    settled_alike : (xs ys : Row) (m : ℕ) → Alike xs ys → Settled pick f k s xs m → Settled pick f k s ys m
    settled_alike xs ys m h e =
        same_rows pick f k s (rounds pick f k s ys m)
        (λ q lq. sym ((rounds_alike xs ys (suc m) h).2 q lq) ∙ ap (λ z. entry z q) e ∙ (rounds_alike xs ys m h).2 q lq)

    begins_alike : (i : ℕ) (xs ys : Row) → Begins f k s i xs → Begins f k s i ys → Alike xs ys
    begins_alike i xs ys g h = (g.0, h.0, λ q lq. g.1 q lq ∙ sym (h.1 q lq))

    -- no run ends earlier than another
    no_earlier : (i t : ℕ) (o p : Option ℕ) (c d : ℕ) → Ran pick f k s i t o c → Ran pick f k s i t p d → c < d → ⊥
    no_earlier i t o p c d g h l =
        let x = g.2 in
        let y = h.2 in
        y.3 x.0 (omega (arith, x.1, y.1)) (settled_alike g.0 h.0 x.0 (begins_alike i g.0 h.0 g.1 h.1) x.2)

    pub one_ran : (i t : ℕ) (o p : Option ℕ) (c d : ℕ) → Ran pick f k s i t o c → Ran pick f k s i t p d → c ≡ d
    one_ran i t o p c d g h =
        elim (dec_lt c d) [
          | yes l ↦ absurd (no_earlier i t o p c d g h l)
          | no l ↦ elim (dec_lt d c) [ yes l' ↦ absurd (no_earlier i t p o d c h g l') | no l' ↦ omega arith ]
        ]
