-- Rows that make progress settle on the first place that is reached on each shuttle, and do so before the k-th round. For either way of looking.
use Rattle.std.proofs.Common.{◌≡◌, ℕ, zero, suc, ◌<◌, ◌≤◌, Some, None, Option, sym, refl, ap, subst, arith}
use native.Mathlib.Decide.{ℕ_discrete}
use Rattle.order.proofs.Ranks.{depth, depth_small, depth_rises}
use Rattle.order.proofs.Rounds.{Within, Of, Progress}

module _
    (Le : ℕ → ℕ → Type 0)
    (le_trans : (a b c : ℕ) → Le a b → Le b c → Le a c)
    (le_anti : (a b : ℕ) → Le a b → Le b a → a ≡ b)
    (k : ℕ) (Reach : ℕ → ℕ → Type 0) (Hop : ℕ → ℕ → ℕ → ℕ → Type 0) (s i : ℕ)
    (low : (q j : ℕ) → Reach q j → q < k)
    (home : Reach s i)
    (home_first : (j : ℕ) → Reach s j → Le i j)
    -- the last edge on a way to another shuttle
    (last_hop : (q j : ℕ) → (q ≡ s → ⊥) → Reach q j → (r : ℕ) × (a : ℕ) × (b : ℕ) × (r ≡ q → ⊥) × Reach r a × Hop r a q b × Reach q b × Le b j)
    -- the moves are ranked: every way leads up
    (rank : ℕ → ℕ → ℕ)
    (rank_hop : (r a q b : ℕ) → Reach r a → Hop r a q b → rank r a < rank q b)
    (rank_along : (q a b : ℕ) → Reach q a → Reach q b → Le a b → rank q a ≤ rank q b)
    (rank_home : (q j : ℕ) → (q ≡ s → ⊥) → Reach q j → rank s i < rank q j)
    (row : ℕ → ℕ → Option ℕ) (P : Progress Le k Reach Hop s i row)
  where
    within_later : (o : Option ℕ) (a b : ℕ) → Le a b → Within Le o a → Within Le o b
    within_later None a b l h = h
    within_later (Some p) a b l h = le_trans p a b h l

    at_home : (m q j : ℕ) → q ≡ s → Reach q j → Within Le (row m q) j
    at_home m q j e p = subst (λ x. Within Le (row m x) j) (sym e) (within_later (row m s) i j (home_first j (subst (λ x. Reach x j) e p)) (P.here m))

    -- where a round changes nothing, nothing is missed

    module _ (m : ℕ) (still : (q : ℕ) → q < k → row (suc m) q ≡ row m q) where
      missed_none : (d q j : ℕ) → rank q j < d → Reach q j → Within Le (row m q) j
      missed_none zero q j l p = absurd (omega arith)
      missed_none (suc d) q j l p =
          elim (ℕ_discrete q s) [
            | yes e ↦ at_home m q j e p
            | no e ↦ let h = last_hop q j e p in
                within_later (row m q) h.2 j h.7
                (subst (λ o. Within Le o h.2) (still q (low q j p))
                (P.takes m q h.0 h.1 h.2 (low q j p) e (low h.0 h.1 h.4) h.3
                (missed_none d h.0 h.1 (omega (arith, rank_hop h.0 h.1 q h.2 h.4 h.5, rank_along q h.2 j h.6 p h.7)) h.4) h.5))
          ]

      pub settled : (q j : ℕ) → Reach q j → Within Le (row m q) j
      settled q j p = missed_none (suc (rank q j)) q j (omega arith) p

    -- the first place that is reached on each shuttle, where one is; its rank has fewer than k below it

    module _ (best : ℕ → ℕ) (best_is : (q j : ℕ) → Reach q j → Reach q (best q) × Le (best q) j) where
      best_home : best s ≡ i
      best_home = let h = best_is s i home in le_anti (best s) i h.1 (home_first (best s) h.0)

      top : ℕ → ℕ
      top q = rank q (best q)

      top_rises : (r a q b : ℕ) → Reach r a → Hop r a q b → Reach q b → Le b (best q) → top r < top q
      unfolding top
      top_rises r a q b p w g l =
          let h = best_is r a p in
          omega (arith, rank_along r (best r) a h.0 p h.1, rank_hop r a q b p w, rank_along q b (best q) g (best_is q b g).0 l)

      top_home : (r a : ℕ) → (r ≡ s → ⊥) → Reach r a → top s < top r
      unfolding top
      top_home r a ne p = subst (λ x. rank s x < rank r (best r)) (sym best_home) (rank_home r (best r) ne (best_is r a p).0)

      -- q.j is there after m rounds, if so is the place that the last edge to q comes from
      rung : (m q j : ℕ) → Reach q j
          → ((r a b : ℕ) → (q ≡ s → ⊥) → (r ≡ q → ⊥) → Reach r a → depth top k r < depth top k q → Hop r a q b → Within Le (row m q) b)
          → Within Le (row m q) j
      rung m q j p next = go (ℕ_discrete q s)
        where
          go : Dec (q ≡ s) → Within Le (row m q) j
          go (yes e) = at_home m q j e p
          go (no e) =
              let g = best_is q j p in
              let h = last_hop q (best q) e g.0 in
              within_later (row m q) h.2 j (le_trans h.2 (best q) j h.7 g.1)
              (next h.0 h.1 h.2 e h.3 h.4 (depth_rises top k h.0 q (low h.0 h.1 h.4) (top_rises h.0 h.1 q h.2 h.4 h.5 h.6 h.7)) h.5)

      -- after m rounds, what has at most m + 1 shuttles below it is there
      within_rounds : (m q j : ℕ) → Reach q j → depth top k q ≤ suc m → Within Le (row m q) j
      within_rounds zero q j p small = rung zero q j p next
        where
          next : (r a b : ℕ) → (q ≡ s → ⊥) → (r ≡ q → ⊥) → Reach r a → depth top k r < depth top k q → Hop r a q b → Within Le (row 0 q) b
          next r a b e nr pr d w =
              elim (ℕ_discrete r s) [
                | yes g ↦ P.begins q a b (low q j p) e (home_first a (subst (λ x. Reach x a) g pr)) (subst (λ x. Hop x a q b) g w)
                | no g ↦ absurd (omega (arith, d, small, depth_rises top k s r (low s i home) (top_home r a g pr)))
              ]
      within_rounds (suc m) q j p small =
          rung (suc m) q j p (λ r a b e nr pr d w. P.takes m q r a b (low q j p) e (low r a pr) nr (within_rounds m r a pr (omega (arith, d, small))) w)

      same_entry : (q : ℕ) (a b : Option ℕ) → Of a (Reach q) → Of b (Reach q) → ((j : ℕ) → Reach q j → Within Le a j) → ((j : ℕ) → Reach q j → Within Le b j) → a ≡ b
      same_entry q None None g h c d = refl
      same_entry q None (Some b) g h c d = absurd (c b h)
      same_entry q (Some a) None g h c d = absurd (d a g)
      same_entry q (Some a) (Some b) g h c d = ap Some (le_anti a b (c b h) (d a g))

      pub few_settle : (m : ℕ) → k ≤ suc (suc m) → (q : ℕ) → q < k → row (suc m) q ≡ row m q
      few_settle m l q lq =
          same_entry q (row (suc m) q) (row m q) (P.reached (suc m) q lq) (P.reached m q lq)
          (λ j p. within_rounds (suc m) q j p (omega (arith, depth_small top k q lq)))
          (λ j p. within_rounds m q j p (omega (arith, depth_small top k q lq)))
