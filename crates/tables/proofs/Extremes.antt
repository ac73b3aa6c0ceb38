-- What the smallest value and the last place of a row of cells are, and how a loop finds them place by place.
use Rattle.std.proofs.Common.{◌≡◌, ℕ, zero, suc, ◌+◌, ◌<◌, ◌≤◌, min, List, [], ◌∷◌, ◌++◌, length, get_or, take, drop, take_all, Bool, true, false, cond, ltb, leb, ◌⊎◌, Some, None, Option, sym, refl, ap, ◌∙◌, inl, inr, ⊎_elim, add-one, arith}
use Rattle.std.proofs.lemmas.Bool.Decides.{nat_tests}
use Rattle.std.proofs.lemmas.Bool.{both_ways, cases_lt, cases_Bool, le-leb, lt-leb, leb-true}
use Rattle.order.specs.Cells.{Smallest, Greatest}
use Rattle.std.specs.Option.{MatchOption}
use Rattle.std.specs.List.{filter_map, cons_option, fold, reduce}
use Rattle.std.proofs.lemmas.List.{drop_all, drop-append-le, length-take-le, take_more}
use Rattle.tables.specs.Plain.{decoded}
use Rattle.tables.specs.Meaning.{least_of, last_of, smaller, at_most}

-- nothing lies before the first place
pub least_none : (f : ℕ → Option ℕ) (i n : ℕ) → n ≤ i → least_of f i n ≡ None
least_none f i zero h = refl
least_none f i (suc n) h = rw (lt-leb i n (omega arith))

-- one place more
pub least_more : (f : ℕ → Option ℕ) (i p : ℕ) → i ≤ p → least_of f i (p + 1) ≡ smaller (least_of f i p) (f p)
least_more f i p h = rw (add-one, le-leb i p h)

pub last_more : (f : ℕ → Option ℕ) (j p : ℕ) → last_of f j (p + 1) ≡ cond (at_most j (f p)) (Some p) (last_of f j p)
last_more f j p = rw add-one

none : {A : Type 0} {v : ℕ} → None ≡ Some v → A
none e = let z : ◌≡◌ {A = ℕ} 0 1 = cc in absurd (omega arith)

same : {v w : ℕ} → Some v ≡ Some w → v ≡ w
same e = cc

-- whose value the smaller of two is
smaller_is : (a b : Option ℕ) (v : ℕ) → smaller a b ≡ Some v → (a ≡ Some v) ⊎ (b ≡ Some v)
smaller_is None b v e = inr e
smaller_is (Some x) None v e = inl e
smaller_is (Some x) (Some y) v e = go (ltb y x) e
  where
    go : (b : Bool) → Some (cond b y x) ≡ Some v → (Some x ≡ Some v) ⊎ (Some y ≡ Some v)
    go true q = inr q
    go false q = inl q

smaller_left : (a b : Option ℕ) (w : ℕ) → a ≡ Some w → (v : ℕ) × (smaller a b ≡ Some v) × (v ≤ w)
smaller_left None b w e = none e
smaller_left (Some x) None w e = (w, e, omega arith)
smaller_left (Some x) (Some y) w e = let s : x ≡ w = same e in (cond (ltb y x) y x, refl, grind (arith, nat_tests))

smaller_right : (a b : Option ℕ) (w : ℕ) → b ≡ Some w → (v : ℕ) × (smaller a b ≡ Some v) × (v ≤ w)
smaller_right None b w e = (w, e, omega arith)
smaller_right (Some x) None w e = none e
smaller_right (Some x) (Some y) w e = let s : y ≡ w = same e in (cond (ltb y x) y x, refl, grind (arith, nat_tests))

-- the least value stands at some place from i on
least_found : (f : ℕ → Option ℕ) (i n v : ℕ) → least_of f i n ≡ Some v → (p : ℕ) × (i ≤ p) × (p < n) × (f p ≡ Some v)
least_found f i zero v e = none e
least_found f i (suc n) v e =
    ⊎_elim
    (λ (t : leb i n ≡ true).
    let e' : smaller (least_of f i n) (f n) ≡ Some v = rw t at e in
    ⊎_elim
    (λ (l : least_of f i n ≡ Some v). let r = least_found f i n v l in (r.0, r.1, omega (arith, r.2), r.3))
    (λ (r : f n ≡ Some v). (n, leb-true i n t, omega arith, r))
    (smaller_is (least_of f i n) (f n) v e'))
    (λ (t : leb i n ≡ false). let e' : None ≡ Some v = rw t at e in none e')
    (cases_Bool (leb i n))

-- and no place from i on holds less
least_bound : (f : ℕ → Option ℕ) (i n p w : ℕ) → i ≤ p → p < n → f p ≡ Some w → (v : ℕ) × (least_of f i n ≡ Some v) × (v ≤ w)
least_bound f i zero p w a b e = absurd (omega arith)
least_bound f i (suc n) p w a b e =
    rw (le-leb i n (omega arith))
    (⊎_elim
    (λ (l : p < n).
    let r = least_bound f i n p w a l e in
    let q = smaller_left (least_of f i n) (f n) r.0 r.1 in
    (q.0, q.1, omega (arith, q.2, r.2)))
    (λ (l : n ≤ p).
    let at' : p ≡ n = omega arith in
    smaller_right (least_of f i n) (f n) w (ap f (sym at') ∙ e))
    (cases_lt p n))

pub least_smallest : (n : ℕ) (f : ℕ → Option ℕ) (i : ℕ) → Smallest n f i (least_of f i n)
least_smallest n f i = go (least_of f i n) refl
  where
    go : (o : Option ℕ) → least_of f i n ≡ o → Smallest n f i o
    go None e = λ a b l h c. none (sym e ∙ (least_bound f i n a b l h c).1)
    go (Some j) e = (
      least_found f i n j e,
      λ a b l h c. let r = least_bound f i n a b l h c in let q : j ≡ r.0 = same (sym e ∙ r.1) in omega (arith, r.2),
    )

-- a cell that holds at most j holds a number
at_most_is : (j : ℕ) (o : Option ℕ) → at_most j o ≡ true → (b : ℕ) × (o ≡ Some b) × (b ≤ j)
at_most_is j None e = let z : ◌≡◌ {A = ℕ} 0 1 = cc in absurd (omega arith)
at_most_is j (Some x) e = (x, refl, leb-true x j e)

last_found : (f : ℕ → Option ℕ) (j n p : ℕ) → last_of f j n ≡ Some p → (p < n) × (at_most j (f p) ≡ true)
last_found f j zero p e = none e
last_found f j (suc n) p e =
    ⊎_elim
    (λ (t : at_most j (f n) ≡ true).
    let e' : Some n ≡ Some p = rw t at e in
    let s : n ≡ p = same e' in
    (omega arith, ap (λ x. at_most j (f x)) (sym s) ∙ t))
    (λ (t : at_most j (f n) ≡ false).
    let e' : last_of f j n ≡ Some p = rw t at e in
    let r = last_found f j n p e' in
    (omega (arith, r.0), r.1))
    (cases_Bool (at_most j (f n)))

last_bound : (f : ℕ → Option ℕ) (j n p : ℕ) → p < n → at_most j (f p) ≡ true → (q : ℕ) × (last_of f j n ≡ Some q) × (p ≤ q)
last_bound f j zero p l e = absurd (omega arith)
last_bound f j (suc n) p l e =
    ⊎_elim
    (λ (t : at_most j (f n) ≡ true). rw t (n, refl, omega arith))
    (λ (t : at_most j (f n) ≡ false).
    rw t
    (⊎_elim
    (λ (b : p < n). last_bound f j n p b e)
    (λ (b : n ≤ p).
    let at' : p ≡ n = omega arith in
    let u : at_most j (f n) ≡ true = ap (λ x. at_most j (f x)) (sym at') ∙ e in
    let z : false ≡ true = cc in
    let y : ◌≡◌ {A = ℕ} 0 1 = cc in absurd (omega arith))
    (cases_lt p n)))
    (cases_Bool (at_most j (f n)))

pub last_greatest : (n : ℕ) (f : ℕ → Option ℕ) (j : ℕ) → Greatest n f j (last_of f j n)
last_greatest n f j = go (last_of f j n) refl
  where
    holds : (a b : ℕ) → f a ≡ Some b → b ≤ j → at_most j (f a) ≡ true
    holds a b c h = ap (at_most j) c ∙ le-leb b j h

    go : (o : Option ℕ) → last_of f j n ≡ o → Greatest n f j o
    go None e = λ a b l c h. none (sym e ∙ (last_bound f j n a l (holds a b c h)).1)
    go (Some p) e =
        let r = last_found f j n p e in (
          (r.0, at_most_is j (f p) r.1),
          λ a b l c h. let q = last_bound f j n a l (holds a b c h) in let x : p ≡ q.0 = same (sym e ∙ q.1) in omega (arith, q.2),
        )

-- there is but one smallest value, and one greatest place
smallest_one : (n : ℕ) (c : ℕ → Option ℕ) (i : ℕ) (o p : Option ℕ) → Smallest n c i o → Smallest n c i p → o ≡ p
smallest_one n c i None None a b = refl
smallest_one n c i None (Some w) a b = absurd (a b.0.0 w b.0.1 b.0.2 b.0.3)
smallest_one n c i (Some v) None a b = absurd (b a.0.0 v a.0.1 a.0.2 a.0.3)
smallest_one n c i (Some v) (Some w) a b = ap Some (omega (arith, a.1 b.0.0 w b.0.1 b.0.2 b.0.3, b.1 a.0.0 v a.0.1 a.0.2 a.0.3))

pub least_only : (n : ℕ) (f : ℕ → Option ℕ) (i : ℕ) (o : Option ℕ) → Smallest n f i o → o ≡ least_of f i n
least_only n f i o h = smallest_one n f i o (least_of f i n) h (least_smallest n f i)

greatest_one : (n : ℕ) (c : ℕ → Option ℕ) (j : ℕ) (o p : Option ℕ) → Greatest n c j o → Greatest n c j p → o ≡ p
greatest_one n c j None None a b = refl
greatest_one n c j None (Some q) a b = absurd (a q b.0.1.0 b.0.0 b.0.1.1 b.0.1.2)
greatest_one n c j (Some p) None a b = absurd (b p a.0.1.0 a.0.0 a.0.1.1 a.0.1.2)
greatest_one n c j (Some p) (Some q) a b = ap Some (omega (arith, a.1 q b.0.1.0 b.0.0 b.0.1.1 b.0.1.2, b.1 p a.0.1.0 a.0.0 a.0.1.1 a.0.1.2))

pub last_only : (n : ℕ) (f : ℕ → Option ℕ) (j : ℕ) (o : Option ℕ) → Greatest n f j o → o ≡ last_of f j n
last_only n f j o h = greatest_one n f j o (last_of f j n) h (last_greatest n f j)

-- rows with the same cells
pub least_like : (f g : ℕ → Option ℕ) (i n : ℕ) → ((c : ℕ) → c < n → f c ≡ g c) → least_of f i n ≡ least_of g i n
least_like f g i zero same = refl
least_like f g i (suc n) same = rw (same n (omega arith), least_like f g i n (λ c l. same c (omega arith)))

pub last_like : (f g : ℕ → Option ℕ) (j n : ℕ) → ((c : ℕ) → c < n → f c ≡ g c) → last_of f j n ≡ last_of g j n
last_like f g j zero same = refl
last_like f g j (suc n) same = rw (same n (omega arith), last_like f g j n (λ c l. same c (omega arith)))

-- the library's least of a row of numbers, and its last

min_smaller : (x y : ℕ) → ◌≡◌ {A = Option ℕ} (Some (min x y)) (smaller (Some x) (Some y))
min_smaller x y = grind (arith, nat_tests)

smaller_none : (a : Option ℕ) → smaller a None ≡ a
smaller_none None = refl
smaller_none (Some x) = refl

smaller_more : (x y : ℕ) (r : Option ℕ) → smaller (Some (min x y)) r ≡ smaller (Some x) (smaller (Some y) r)
smaller_more x y None = min_smaller x y
smaller_more x y (Some r) = grind (arith, nat_tests)

reduce_first : (x : ℕ) (xs : List ℕ) → ◌≡◌ {A = Option ℕ} (Some (fold min x xs)) (smaller (Some x) (reduce min xs))
reduce_first x [] = refl
reduce_first x (y ∷ ys) = reduce_first (min x y) ys ∙ smaller_more x y (reduce min ys) ∙ ap (smaller (Some x)) (sym (reduce_first y ys))

reduce_more : (o : Option ℕ) (xs : List ℕ) → reduce min (cons_option o xs) ≡ smaller o (reduce min xs)
reduce_more None xs = refl
reduce_more (Some x) xs = reduce_first x xs

smaller_assoc : (a b c : Option ℕ) → smaller a (smaller b c) ≡ smaller (smaller a b) c
smaller_assoc None b c = refl
smaller_assoc (Some x) None c = refl
smaller_assoc (Some x) (Some y) None = sym (smaller_none (smaller (Some x) (Some y)))
smaller_assoc (Some x) (Some y) (Some z) = grind (arith, nat_tests)

-- one number more at the end
reduce_push : (xs : List ℕ) (v : ℕ) → reduce min (filter_map decoded (xs ++ v ∷ [])) ≡ smaller (reduce min (filter_map decoded xs)) (decoded v)
reduce_push [] v = reduce_more (decoded v) [] ∙ smaller_none (decoded v)
reduce_push (x ∷ xs) v =
    reduce_more (decoded x) (filter_map decoded (xs ++ v ∷ []))
    ∙ ap (smaller (decoded x)) (reduce_push xs v)
    ∙ smaller_assoc (decoded x) (reduce min (filter_map decoded xs)) (decoded v)
    ∙ ap (λ a. smaller a (decoded v)) (sym (reduce_more (decoded x) (filter_map decoded xs)))

-- the smallest number stands for the smallest of what the numbers stand for

decoded_min : (x y : ℕ) → x ≤ 65535 → y ≤ 65535 → decoded (min x y) ≡ smaller (decoded x) (decoded y)
decoded_min x y a b = grind (arith, nat_tests)

lowest_decoded : (a : ℕ) (xs : List ℕ) → a ≤ 65535 → ((i : ℕ) → i < length xs → get_or xs i 0 ≤ 65535) → decoded (fold min a xs) ≡ smaller (decoded a) (reduce min (filter_map decoded xs))
lowest_decoded a [] fits small = sym (smaller_none (decoded a))
lowest_decoded a (x ∷ xs) fits small =
    let x_fits : x ≤ 65535 = small 0 (omega arith) in
    lowest_decoded (min a x) xs (omega arith) (λ i l. small (suc i) (omega arith))
    ∙ ap (λ o. smaller o (reduce min (filter_map decoded xs))) (decoded_min a x fits x_fits)
    ∙ sym (smaller_assoc (decoded a) (decoded x) (reduce min (filter_map decoded xs)))
    ∙ ap (smaller (decoded a)) (sym (reduce_more (decoded x) (filter_map decoded xs)))

pub lowest_is : (xs : List ℕ) → ((i : ℕ) → i < length xs → get_or xs i 0 ≤ 65535) → decoded (fold min 65535 xs) ≡ reduce min (filter_map decoded xs)
lowest_is xs small = lowest_decoded 65535 xs (omega arith) small

least_front : (row : List ℕ) (i n : ℕ) → n ≤ length row → reduce min (filter_map decoded (drop i (take n row))) ≡ least_of (λ p. decoded (get_or row p 0)) i n
least_front row i zero few = ap (λ l. reduce min (filter_map decoded l)) (drop_all i (take {A = ℕ} 0 row) (omega arith))
least_front row i (suc n) few =
    let f : ℕ → Option ℕ = λ p. decoded (get_or row p 0) in
    let g : List ℕ → Option ℕ = λ l. reduce min (filter_map decoded l) in
    let size = length-take-le n row (omega arith) in
    let one_more : take (suc n) row ≡ take n row ++ get_or row n 0 ∷ [] = ap (λ m. take m row) (sym (add-one n)) ∙ take_more row n 0 (omega arith) in
    ⊎_elim
    (λ (late : n < i). ap g (drop_all i (take (suc n) row) (omega (arith, length-take-le (suc n) row few))) ∙ sym (least_none f i (suc n) (omega arith)))
    (λ (more : i ≤ n).
    ap (λ l. g (drop i l)) one_more
    ∙ ap g (drop-append-le i (take n row) (get_or row n 0 ∷ []) (omega (arith, size)))
    ∙ reduce_push (drop i (take n row)) (get_or row n 0)
    ∙ ap (λ o. smaller o (f n)) (least_front row i n (omega arith))
    ∙ sym (rw (le-leb i n more) refl))
    (cases_lt n i)

pub least_of_row : (row : List ℕ) (f : ℕ → Option ℕ) (i n : ℕ) → length row ≡ n → ((p : ℕ) → p < n → decoded (get_or row p 0) ≡ f p) → reduce min (filter_map decoded (drop i row)) ≡ least_of f i n
least_of_row row f i n size same =
    ap (λ l. reduce min (filter_map decoded (drop i l))) (sym (take_all n row (omega arith)))
    ∙ least_front row i n (omega arith)
    ∙ least_like (λ p. decoded (get_or row p 0)) f i n same

pub last_of_row : (row : List ℕ) (f : ℕ → Option ℕ) (j n : ℕ) (o : Option ℕ) → length row ≡ n → ((p : ℕ) → p < n → decoded (get_or row p 0) ≡ f p)
    → MatchOption o ((p : ℕ) → p < length row → at_most j (decoded (get_or row p 0)) ≡ false)
    (λ p. (p < length row) × (at_most j (decoded (get_or row p 0)) ≡ true) × ((q : ℕ) → p < q → q < length row → at_most j (decoded (get_or row q 0)) ≡ false))
    → o ≡ last_of f j n
last_of_row row f j n o size same found = last_only n f j o (greatest o found)
  where
    too_high : (p b : ℕ) → p < n → f p ≡ Some b → b ≤ j → at_most j (decoded (get_or row p 0)) ≡ false → ⊥
    too_high p b l e few high = let e' = same p l ∙ e in let low = ap (at_most j) (sym e') ∙ high in grind (arith, nat_tests)

    value_at : (p : ℕ) → p < n → at_most j (decoded (get_or row p 0)) ≡ true → (b : ℕ) × (f p ≡ Some b) × (b ≤ j)
    value_at p l low = go (decoded (get_or row p 0)) refl
      where
        go : (v : Option ℕ) → decoded (get_or row p 0) ≡ v → (b : ℕ) × (f p ≡ Some b) × (b ≤ j)
        go None e = let bad = ap (at_most j) (sym e) ∙ low in absurd (both_ways _ refl bad)
        go (Some b) e = (b, sym (same p l) ∙ e, leb-true b j (ap (at_most j) (sym e) ∙ low))

    greatest : (o : Option ℕ) → MatchOption o ((p : ℕ) → p < length row → at_most j (decoded (get_or row p 0)) ≡ false)
        (λ p. (p < length row) × (at_most j (decoded (get_or row p 0)) ≡ true) × ((q : ℕ) → p < q → q < length row → at_most j (decoded (get_or row q 0)) ≡ false))
        → Greatest n f j o
    greatest None high = λ a b l e few. too_high a b l e few (high a (omega arith))
    greatest (Some p) at =
        let l : p < n = omega (arith, at.0) in
        ((l, value_at p l at.1), λ a b la e few. ⊎_elim (λ (later : p < a). absurd (too_high a b la e few (at.2 a later (omega arith)))) (λ (up : a ≤ p). up) (cases_lt p a))
