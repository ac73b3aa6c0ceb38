-- What the table lets come next, as a test that computes: a whole list is then checked by one computation.
use Rattle.std.proofs.Common.{◌≡◌, ℕ, zero, suc, ◌+◌, ◌*◌, ◌<◌, ◌≤◌, Bool, true, false, not, ◌&&◌, ◌||◌, eqb, ltb, List, [], ◌∷◌, length, get_or, set, Some, None, Option, sym, refl, subst, inl, inr, arith, ltb-true, lt-ltb, eqb-true}
use native.Mathlib.Decide.{ℕ_discrete}
use borrow.Author.Tests.{eqb-false, not-true, both_ways, clash}
use Rattle.std.proofs.lemmas.Bool.{and_from, or_cases}
use Rattle.tables.specs.Meaning.{Meaning}
use Rattle.running.specs.Calls.{last_look}
use Rattle.running.specs.Progress.{Past, Offers, Picks, Nexts, all}
use Rattle.running.proofs.Fills.{Turn, turn_more}

and_parts : (x y : Bool) → (x && y) ≡ true → (x ≡ true) × (y ≡ true)
and_parts true y e = (refl, e)
and_parts false y e = absurd (clash e)

abbrev past : Option ℕ → ℕ → Bool
past None c = true
past (Some p) c = ltb p c

past_says : (o : Option ℕ) (c : ℕ) → past o c ≡ true → Past o c
past_says None c e = tt
past_says (Some p) c e = ltb-true p c e

says_past : (o : Option ℕ) (c : ℕ) → Past o c → past o c ≡ true
says_past None c h = refl
says_past (Some p) c h = lt-ltb p c h

module _ (m : Meaning) (d : List ℕ) where
  -- no wait from one of the first r shuttles holds back the place j of t
  abbrev goes : (t j : ℕ) → ℕ → Bool
  goes t j zero = true
  goes t j (suc r) = (eqb r t || past (last_look m r t j) (get_or d r 0)) && goes t j r

  goes_says : (t j c : ℕ) → goes t j c ≡ true → (r : ℕ) → r < c → (r ≡ t → ⊥) → Past (last_look m r t j) (get_or d r 0)
  goes_says t j zero e r l ne = absurd (omega arith)
  goes_says t j (suc c) e r l ne =
      let h = and_parts (eqb c t || past (last_look m c t j) (get_or d c 0)) (goes t j c) e in
      elim (ℕ_discrete r c) [
        | yes q ↦ elim (or_cases (eqb c t) (past (last_look m c t j) (get_or d c 0)) h.0) [
          | inl x ↦ absurd (ne (omega (arith, q, eqb-true c t x)))
          | inr x ↦ subst (λ y. Past (last_look m y t j) (get_or d y 0)) (sym q) (past_says (last_look m c t j) (get_or d c 0) x)
        ]
        | no q ↦ goes_says t j c h.1 r (omega arith) ne
      ]

  says_goes : (t j c : ℕ) → ((r : ℕ) → r < c → (r ≡ t → ⊥) → Past (last_look m r t j) (get_or d r 0)) → goes t j c ≡ true
  says_goes t j zero h = refl
  says_goes t j (suc c) h = and_from (eqb c t || past (last_look m c t j) (get_or d c 0)) (goes t j c) (here (eqb c t) refl) (says_goes t j c (λ r l ne. h r (omega arith) ne))
    where
      here : (x : Bool) → eqb c t ≡ x → (x || past (last_look m c t j) (get_or d c 0)) ≡ true
      here true e = refl
      here false e = says_past (last_look m c t j) (get_or d c 0) (h c (omega arith) (eqb-false c t e))

  module _ (b : List ℕ) where
    -- shuttle t's next move may come, and is within the bounds b
    abbrev offers : ℕ → Bool
    offers t = (ltb t m.shuttles && ltb (get_or d t 0) (get_or b t 0)) && (ltb (get_or d t 0) m.moves && goes t (get_or d t 0) m.shuttles)

    offers_says : (t : ℕ) → offers t ≡ true → Offers m d b t
    offers_says t e =
        let h = and_parts (ltb t m.shuttles && ltb (get_or d t 0) (get_or b t 0)) (ltb (get_or d t 0) m.moves && goes t (get_or d t 0) m.shuttles) e in
        let x = and_parts (ltb t m.shuttles) (ltb (get_or d t 0) (get_or b t 0)) h.0 in
        let y = and_parts (ltb (get_or d t 0) m.moves) (goes t (get_or d t 0) m.shuttles) h.1 in
        (ltb-true t m.shuttles x.0, ltb-true (get_or d t 0) (get_or b t 0) x.1, ltb-true (get_or d t 0) m.moves y.0, goes_says t (get_or d t 0) m.shuttles y.1)

    says_offers : (t : ℕ) → Offers m d b t → offers t ≡ true
    says_offers t h =
        and_from _ _ (and_from _ _ (lt-ltb t m.shuttles h.0) (lt-ltb (get_or d t 0) (get_or b t 0) h.1))
        (and_from _ _ (lt-ltb (get_or d t 0) m.moves h.2) (says_goes t (get_or d t 0) m.shuttles h.3))

    -- none of the first c shuttles offers one
    abbrev silent : ℕ → Bool
    silent zero = true
    silent (suc c) = not (offers c) && silent c

    silent_says : (c : ℕ) → silent c ≡ true → (t : ℕ) → t < c → Offers m d b t → ⊥
    silent_says zero e t l h = omega arith
    silent_says (suc c) e t l h =
        let s = and_parts (not (offers c)) (silent c) e in
        elim (ℕ_discrete t c) [
          | yes q ↦ both_ways (offers c) (not-true (offers c) s.0) (says_offers c (subst (Offers m d b) q h))
          | no q ↦ silent_says c s.1 t (omega arith) h
        ]

    -- t is the lowest that offers one
    abbrev lowest : ℕ → Bool
    lowest t = offers t && silent t

    lowest_says : (t : ℕ) → lowest t ≡ true → Picks m d b (Some t)
    lowest_says t e = let h = and_parts (offers t) (silent t) e in (offers_says t h.0, silent_says t h.1)

  -- t is taken next: within the bounds first, then any
  abbrev taken : List ℕ → ℕ → Bool
  taken b t = lowest b t || (silent b m.shuttles && lowest all t)

  taken_says : (b : List ℕ) (t : ℕ) → taken b t ≡ true → Nexts m d b (Some t)
  taken_says b t e =
      elim (or_cases (lowest b t) (silent b m.shuttles && lowest all t) e) [
        | inl x ↦ inl (lowest_says b t x)
        | inr x ↦ let h = and_parts (silent b m.shuttles) (lowest all t) x in inr ((λ q o. silent_says b m.shuttles h.0 q o.0 o), lowest_says all t h.1)
      ]

-- the shuttles ts are taken one after the other, d moves of each being listed at first
abbrev pub takes : Meaning → (b d ts : List ℕ) → Bool
takes m b d [] = true
takes m b d (t ∷ ts) = taken m d b t && takes m b (set d t (get_or d t 0 + 1)) ts

-- and their codes written to the places p and on
abbrev pub written : (d out : List ℕ) (p : ℕ) (ts : List ℕ) → List ℕ
written d out p [] = out
written d out p (t ∷ ts) = written (set d t (get_or d t 0 + 1)) (set out p (t * 4096 + get_or d t 0)) (p + 1) ts

module _ (m : Meaning) (few : m.shuttles ≤ 16) (short : m.moves ≤ 4096) (b old : List ℕ) (total : ℕ) (le : total ≤ length old) where
  pub taken_all : (ts d out : List ℕ) (p : ℕ) → p + length ts ≡ total → Turn m b total old out d p → takes m b d ts ≡ true
      → (e : List ℕ) × Turn m b total old (written d out p ts) e total
  taken_all [] d out p q h e = (d, subst (Turn m b total old out d) (omega (arith, q)) h)
  taken_all (t ∷ ts) d out p q h e =
      let x = and_parts (taken m d b t) (takes m b (set d t (get_or d t 0 + 1)) ts) e in
      taken_all ts (set d t (get_or d t 0 + 1)) (set out p (t * 4096 + get_or d t 0)) (p + 1) (omega (arith, q))
      (turn_more m few short b old total d out p (omega (arith, q)) le h t (taken_says m d b t x.0) (set d t (get_or d t 0 + 1)) (set out p (t * 4096 + get_or d t 0)) refl refl) x.1
