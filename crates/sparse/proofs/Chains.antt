-- The free records of a sparse tree: each leads to the next, and none comes twice.
use Rattle.std.proofs.Common.{◌≡◌, ℕ, suc, ◌+◌, ◌<◌, ◌≤◌, ◌≢◌, ◌⊎◌, List, [], ◌∷◌, length, get_or, set, Some, None, Option, sym, refl, ap, ◌∙◌, subst, inl, inr, arith, length-set}
use Rattle.std.proofs.lemmas.List.{get_or-set_same, get_or-set_other}
use Rattle.sparse.specs.declared.record.Record.{Record}
use Rattle.sparse.specs.declared.record.Record.TheVariants.{Free}
use Rattle.sparse.specs.Trees.{At}
use Rattle.sparse.specs.Form.{Chain}

-- the free records are apart from each other
abbrev pub On : ℕ → List ℕ → Type 0
On b [] = ⊥
On b (a ∷ us) = (b ≡ a) ⊎ On b us

chain_one : (xs : List Record) (link : Option ℕ) (us bs : List ℕ) → Chain xs link us → Chain xs link bs → length us ≡ length bs
chain_one xs link [] [] c d = refl
chain_one xs link [] (b ∷ bs) c d = let p = d.0 in let z : ◌≡◌ {A = ℕ} 0 1 = cc in absurd (omega arith)
chain_one xs link (a ∷ us) [] c d = let p = c.0 in let z : ◌≡◌ {A = ℕ} 0 1 = cc in absurd (omega arith)
chain_one xs link (a ∷ us) (b ∷ bs) c d =
    let p = c.0 in
    let q = d.0 in
    let ab : b ≡ a = cc in
    let i = c.1.1.1 in
    let j : get_or xs a (Free None) ≡ Free d.1.0 = rw ab at d.1.1.1 in
    let n : c.1.0 ≡ d.1.0 = cc in
    ap (λ (k : ℕ). suc k) (chain_one xs c.1.0 us bs c.1.2 (subst (λ o. Chain xs o bs) (sym n) d.1.2))

-- what stands from a record of the chain on
chain_from : (xs : List Record) (link : Option ℕ) (us : List ℕ) (b : ℕ) → Chain xs link us → On b us → (bs : List ℕ) × Chain xs (Some b) bs × (length bs ≤ length us)
chain_from xs link [] b c o = elim o [ ]
chain_from xs link (a ∷ us) b c (inl o) = (a ∷ us, (ap (λ (z : ℕ). Some z) o, c.1), omega arith)
chain_from xs link (a ∷ us) b c (inr o) = let k = chain_from xs c.1.0 us b c.1.2 o in (k.0, k.1, omega arith)

pub chain_fresh : (xs : List Record) (link : Option ℕ) (a : ℕ) (us : List ℕ) → Chain xs link (a ∷ us) → On a us → ⊥
chain_fresh xs link a us c o =
    let k = chain_from xs c.1.0 us a c.1.2 o in
    let e = chain_one xs (Some a) k.0 (a ∷ us) k.1 (refl, c.1) in
    omega arith

pub chain_free : (xs : List Record) (link : Option ℕ) (us : List ℕ) (b : ℕ) → Chain xs link us → On b us → (n : Option ℕ) × At xs b (Free n)
chain_free xs link [] b c o = elim o [ ]
chain_free xs link (a ∷ us) b c (inl o) = (c.1.0, rw o c.1.1)
chain_free xs link (a ∷ us) b c (inr o) = chain_free xs c.1.0 us b c.1.2 o

pub chain_same : (xs ys : List Record) (link : Option ℕ) (us : List ℕ) → length ys ≡ length xs → ((b : ℕ) → On b us → get_or ys b (Free None) ≡ get_or xs b (Free None)) → Chain xs link us → Chain ys link us
chain_same xs ys link [] len same c = c
chain_same xs ys link (a ∷ us) len same c =
    (c.0, (c.1.0, (omega (arith, c.1.1.0), same a (inl refl) ∙ c.1.1.1), chain_same xs ys c.1.0 us len (λ b o. same b (inr o)) c.1.2))

-- one more record is freed
pub chain_push : (xs : List Record) (head : Option ℕ) (i : ℕ) → i < length xs → ((us : List ℕ) × Chain xs head us × (length us ≡ i) × ((b : ℕ) → On b us → b < i)) →
    (us : List ℕ) × Chain (set xs i (Free head)) (Some i) us × (length us ≡ i + 1) × ((b : ℕ) → On b us → b < i + 1)
chain_push xs head i l inv =
    let at : get_or (set xs i (Free head)) i (Free None) ≡ Free head = get_or-set_same xs i (Free head) (Free None) l in (
      i ∷ inv.0,
      (refl, (head, (rw length-set l, at), chain_same xs (set xs i (Free head)) head inv.0 (length-set xs i (Free head)) (λ b o. get_or-set_other xs i b (Free head) (Free None) (away b o)) inv.1)),
      omega (arith, inv.2),
      below,
    )
  where
    away : (b : ℕ) → On b inv.0 → b ≢ i
    away b o = omega (arith, inv.3 b o)

    below : (b : ℕ) → On b (i ∷ inv.0) → b < i + 1
    below b (inl e) = omega arith
    below b (inr o) = omega (arith, inv.3 b o)
