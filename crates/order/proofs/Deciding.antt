-- Where the edges have a running order, it is decided what is before what.
use Rattle.std.proofs.Common.{◌≡◌, ℕ, suc, ◌<◌, Bool, true, false, ◌⊎◌, ◌↔◌, List, [], ◌∷◌, sym, refl, subst, inl, inr}
use mathlib.Core.Logic.Dec
use mathlib.Core.HLevel.{Discrete, ×_discrete}
use mathlib.Core.Bool.{false≢true}
use native.Mathlib.Decide.{dec_lt, ℕ_discrete}
use Rattle.order.specs.Lists.{In, Earlier, Reaches, there, onward}
use Rattle.order.specs.Board.{Lengths, Move, Edges, Next, Step, Before, Running}
use Rattle.order.proofs.Lists.{in_first, in_second}
use Rattle.order.proofs.Board.{steps_kept}

-- one of the list has the property, or none has
pub find : {X : Type 0} (P : X → Type 0) (l : List X) → ((y : X) → In l y → Dec (P y)) → ((y : X) × In l y × P y) ⊎ ((y : X) → In l y → P y → ⊥)
find P [] d = inr (λ y h _. h)
find {X} P (z ∷ l) d = go (d z (inl refl)) (find P l (λ y h. d y (inr h)))
  where
    none' : (P z → ⊥) → ((y : X) → In l y → P y → ⊥) → (y : X) → In (z ∷ l) y → P y → ⊥
    none' q f y (inl e) p = q (subst P (sym e) p)
    none' q f y (inr h) p = f y h p

    go : Dec (P z) → ((y : X) × In l y × P y) ⊎ ((y : X) → In l y → P y → ⊥) → ((y : X) × In (z ∷ l) y × P y) ⊎ ((y : X) → In (z ∷ l) y → P y → ⊥)
    go (yes p) r = inl (z, inl refl, p)
    go (no q) (inl r) = inl (r.0, inr r.1, r.2)
    go (no q) (inr f) = inr (none' q f)

module _ {X : Type 0} (same : Discrete X) (S : X → X → Type 0) (next : (x y : X) → Dec (S x y)) (v : X) where
  Within : List X → X → Type 0
  Within l x = (y : X) × In l y × (S x y × Reaches S v y)

  -- x's steps lead into the list l, where it is decided
  from_here : (l : List X) (x : X) → ((y : X) → S x y → In l y) → ((y : X) → In l y → Dec (Reaches S v y)) → Dec (Reaches S v x)
  from_here l x into rec = go (same x v) (find (λ y. S x y × Reaches S v y) l (λ y h. Dec.and (next x y) (rec y h)))
    where
      shut : ((x ≡ v) → ⊥) → ((y : X) → In l y → (S x y × Reaches S v y) → ⊥) → Reaches S v x → ⊥
      shut q f (there e) = q e
      shut q f (onward {w} s p) = f w (into w s) (s, p)

      go : Dec (x ≡ v) → ((y : X) × In l y × (S x y × Reaches S v y)) ⊎ ((y : X) → In l y → (S x y × Reaches S v y) → ⊥) → Dec (Reaches S v x)
      go (yes e) r = yes (there e)
      go (no q) (inl r) = yes (onward r.2.0 r.2.1)
      go (no q) (inr f) = no (shut q f)

  pub decide_reaches : (l : List X) → ((x : X) → Earlier l x x → ⊥) → ((x y : X) → In l x → S x y → Earlier l x y) → (x : X) → In l x → Dec (Reaches S v x)
  decide_reaches [] once kept x h = absurd h
  decide_reaches (z ∷ l) once kept x (inr h) = decide_reaches l (λ w e. once w (inr e)) (λ a b i s. later a b i (kept a b (inr i) s)) x h
    where
      later : (a b : X) → In l a → Earlier (z ∷ l) a b → Earlier l a b
      later a b i (inl e) = absurd (once a (inl (e.0, i)))
      later a b i (inr e) = e
  decide_reaches (z ∷ l) once kept x (inl e) =
      from_here l x (λ y s. behind y (kept x y (inl e) s)) (decide_reaches l (λ w g. once w (inr g)) (λ a b i s. later a b i (kept a b (inr i) s)))
    where
      later : (a b : X) → In l a → Earlier (z ∷ l) a b → Earlier l a b
      later a b i (inl g) = absurd (once a (inl (g.0, i)))
      later a b i (inr g) = g

      behind : (y : X) → Earlier (z ∷ l) x y → In l y
      behind y (inl g) = g.1
      behind y (inr g) = in_second l x y g

pub same_move : Discrete Move
same_move = ×_discrete ℕ_discrete ℕ_discrete

pub in_dec : {X : Type 0} → Discrete X → (l : List X) (x : X) → Dec (In l x)
in_dec same [] x = no (λ h. h)
in_dec same (z ∷ l) x = go (same z x) (in_dec same l x)
  where
    go : Dec (z ≡ x) → Dec (In l x) → Dec (In (z ∷ l) x)
    go (yes e) r = yes (inl e)
    go (no q) (yes h) = yes (inr h)
    go (no q) (no f) = no (λ h. elim h [ inl e ↦ q e | inr g ↦ f g ])

⊎-dec : {A B : Type 0} → Dec A → Dec B → Dec (A ⊎ B)
⊎-dec (yes a) d = yes (inl a)
⊎-dec (no q) (yes b) = yes (inr b)
⊎-dec (no q) (no r) = no (λ h. elim h [ inl a ↦ q a | inr b ↦ r b ])

step_dec : (k : ℕ) (len : Lengths) (E : Edges) (x y : Move) → Dec (Step k len E x y)
step_dec k len E x y = ⊎-dec (three (dec_lt x.0 k) (dec_lt (suc x.1) (len x.0)) (same_move y (x.0, suc x.1))) (in_dec (×_discrete same_move same_move) E (x, y))
  where
    three : Dec (x.0 < k) → Dec (suc x.1 < len x.0) → Dec (y ≡ (x.0, suc x.1)) → Dec (Next k len x y)
    three (yes a) (yes b) (yes c) = yes (a, b, c)
    three (yes a) (yes b) (no c) = no (λ h. c h.2)
    three (yes a) (no b) c = no (λ h. b h.1)
    three (no a) b c = no (λ h. a h.0)

pub before_dec : (k : ℕ) (len : Lengths) (E : Edges) (L : List Move) → Running k len E L → (x v : Move) → Dec (Before k len E x v)
before_dec k len E L R x v = go (in_dec same_move L x)
  where
    go : Dec (In L x) → Dec (Before k len E x v)
    go (yes h) = decide_reaches same_move (Step k len E) (step_dec k len E) v L R.once (λ a b _ s. steps_kept k len E L R a b s) x h
    go (no q) = from_here same_move (Step k len E) (step_dec k len E) v [] x (λ y s. q (in_first L x y (steps_kept k len E L R x y s))) (λ y h. absurd h)

-- a decision as a test
pub tests : {X : Type 0} (P : X → Type 0) → ((x : X) → Dec (P x)) → (B : X → Bool) × ((x : X) → (B x ≡ true) ↔ P x)
tests {X} P d = (λ x. test (d x), λ x. right x (d x))
  where
    test : {A : Type 0} → Dec A → Bool
    test (yes a) = true
    test (no q) = false

    right : (x : X) (e : Dec (P x)) → (test e ≡ true) ↔ P x
    right x (yes a) = (λ _. a, λ _. refl)
    right x (no q) = (λ e. absurd (false≢true e), λ p. absurd (q p))
