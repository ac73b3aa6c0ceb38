-- Where things stand in a list, and what a relation leads to.
use Rattle.std.specs.Prelude.{◌≡◌, Bool, not, ◌⊎◌, List, [], ◌∷◌, ◌++◌, filter}

-- x stands in the list
abbrev pub In : {X : Type 0} → List X → X → Type 0
In [] x = ⊥
In (z ∷ l) x = (z ≡ x) ⊎ In l x

-- x stands in the list, and y at a later place. In a list that has nothing twice, no x stands earlier than itself
abbrev pub Earlier : {X : Type 0} → List X → X → X → Type 0
Earlier [] x y = ⊥
Earlier (z ∷ l) x y = ((z ≡ x) × In l y) ⊎ Earlier l x y

-- by steps of S, none or more, u comes to v
pub data Reaches {X : Type 0} (S : X → X → Type 0) (v : X) : X → Type 0 where
  there : {u : X} → u ≡ v → Reaches S v u
  onward : {u w : X} → S u w → Reaches S v w → Reaches S v u

-- what passes the test, and then what does not, each as it stood
abbrev pub parted : {X : Type 0} → (X → Bool) → List X → List X
parted B l = filter B l ++ filter (λ x. not (B x)) l
