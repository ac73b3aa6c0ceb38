-- Bytes written after bytes.
use Rattle.std.proofs.Common.{◌≡◌, ℕ, suc, ◌+◌, ◌<◌, ◌≤◌, List, [], ◌∷◌, ◌++◌, length, take, drop, set, sym, ap, ◌∙◌, subst, append_assoc, arith, length-append, length-set, take-append-drop, take-suc-set, drop-set-lt}
use Rattle.station.specs.Text.{poured, Pours}

poured_append : (xs : List ℕ) (at : ℕ) (bs cs : List ℕ) → poured xs at (bs ++ cs) ≡ poured (poured xs at bs) (at + length bs) cs
poured_append xs at [] cs = let e : at ≡ at + 0 = omega arith in ap (λ n. poured xs n cs) e
poured_append xs at (b ∷ bs) cs =
    let e : suc at + length bs ≡ at + suc (length bs) = omega arith in
    poured_append (set xs at b) (suc at) bs cs ∙ ap (λ n. poured (poured (set xs at b) (suc at) bs) n cs) e

pub pours_same : {xs ys bs cs : List ℕ} {at n : ℕ} → bs ≡ cs → Pours xs at cs ys n → Pours xs at bs ys n
pours_same {xs} {ys} {bs} {cs} {at} {n} e p = subst (λ ds. Pours xs at ds ys n) (sym e) p

pub pours_more : {xs ys zs bs cs : List ℕ} {at n m : ℕ} → Pours xs at bs ys n → Pours ys n cs zs m → Pours xs at (bs ++ cs) zs m
pours_more {xs} {ys} {zs} {bs} {cs} {at} {n} {m} p q = record {
  bytes = q.bytes ∙ ap (λ k. poured ys k cs) p.next ∙ ap (λ l. poured l (at + length bs) cs) p.bytes ∙ sym (poured_append xs at bs cs);
  next = q.next ∙ omega (arith, p.next, length-append bs cs);
}

-- where there is room for all of them, the bytes stand in the buffer, and the rest of it is as it was
poured_middle : (xs : List ℕ) (at : ℕ) (bs : List ℕ) → at + length bs ≤ length xs → poured xs at bs ≡ take at xs ++ (bs ++ drop (at + length bs) xs)
poured_middle xs at [] l = let e : at ≡ at + 0 = omega arith in sym (ap (λ n. take at xs ++ drop n xs) (sym e) ∙ take-append-drop at xs)
poured_middle xs at (b ∷ bs) l =
    let e : suc at + length bs ≡ at + suc (length bs) = omega arith in
    let h : at < length xs = omega arith in
    let r : suc at + length bs ≤ length (set xs at b) = omega (arith, length-set xs at b) in
    poured_middle (set xs at b) (suc at) bs r
    ∙ ap (λ ys. ys ++ (bs ++ drop (suc at + length bs) (set xs at b))) (take-suc-set xs at b h)
    ∙ append_assoc (take at xs) (b ∷ []) (bs ++ drop (suc at + length bs) (set xs at b))
    ∙ ap (λ ys. take at xs ++ (b ∷ (bs ++ ys))) (drop-set-lt (suc at + length bs) xs at b (omega arith) ∙ ap (λ n. drop n xs) e)

pub poured_front : (xs bs : List ℕ) → length bs ≤ length xs → poured xs 0 bs ≡ bs ++ drop (length bs) xs
poured_front xs bs l = let e : 0 + length bs ≡ length bs = omega arith in poured_middle xs 0 bs (omega arith) ∙ ap (λ n. bs ++ drop n xs) e
