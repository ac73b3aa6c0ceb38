-- Each call has one answer at the waits that stand.
use Rattle.std.proofs.Common.{◌≡◌, ℕ, ◌*◌, ◌/◌, ◌%◌, Bool, true, false, ◌⊎◌, ◌↔◌, List, Some, None, Ok, Err, Option, Result, sym, refl, ap, ◌∙◌, inl, inr, arith}
use Rattle.words.specs.declared.Refusal.{Refusal}
use Rattle.words.specs.Refusals.{passed}
use Rattle.words.specs.Codes.{move_of}
use Rattle.order.specs.Board.{Move, Lengths, Edges, Running}
use Rattle.order.specs.Rounds.{FirstAfter, LastBefore, Ran}
use Rattle.order.proofs.Alike.{one_ran}
use Rattle.questions.specs.declared.rounds.Way.{Way}
use Rattle.questions.specs.declared.rounds.Way.TheVariants.{After, Before as Ahead}
use Rattle.questions.specs.Checks.{move_check}
use Rattle.questions.specs.Looking.{pick_of, look_of}
use Rattle.questions.specs.Asking.{coded}
use Rattle.running.specs.Orders.{Lists, Pushes}
use Rattle.running.proofs.Codes.{one_filled}
use Rattle.board.specs.Standing.{Limits, Waits, lengths, meant, place_gives, Placed, Nearest, Rounded, Found, Tells, Listed, PushedBy, Pushed, Tested}

-- a test of a statement is one
pub same_truth : {X : Type 0} (c d : Bool) → (c ≡ true) ↔ X → (d ≡ true) ↔ X → c ≡ d
same_truth true d p q = sym (q.1 (p.0 refl))
same_truth false true p q = p.1 (q.0 refl)
same_truth false false p q = refl

-- no check both passes and refuses
not_both : {A : Type 0} (q : Result Unit Refusal) (e : Refusal) → passed ≡ q → Err e ≡ q → A
not_both q e g h = let p : passed ≡ Err e = g ∙ sym h in let z : ◌≡◌ {A = ℕ} 0 1 = cc in absurd (omega arith)

one_refusal : {X : Type 0} (q : Result Unit Refusal) (e f : Refusal) → Err e ≡ q → Err f ≡ q → ◌≡◌ {A = Result X Refusal} (Err e) (Err f)
one_refusal q e f g h = let p : ◌≡◌ {A = Result Unit Refusal} (Err e) (Err f) = g ∙ sym h in let z : e ≡ f = cc in ap Err z

module _ (k : ℕ) (len : Lengths) (W : Edges) (u : Move) (t : ℕ) where
  one_first : (o p : Option ℕ) → FirstAfter k len W u t o → FirstAfter k len W u t p → o ≡ p
  one_first None None g h = refl
  one_first None (Some p) g h = absurd (g p h.0)
  one_first (Some o) None g h = absurd (h o g.0)
  one_first (Some o) (Some p) g h = ap Some (omega (arith, g.1 p h.0, h.1 o g.0))

  one_last : (o p : Option ℕ) → LastBefore k len W u t o → LastBefore k len W u t p → o ≡ p
  one_last None None g h = refl
  one_last None (Some p) g h = absurd (g p h.0)
  one_last (Some o) None g h = absurd (h o g.0)
  one_last (Some o) (Some p) g h = ap Some (omega (arith, g.1 p h.0, h.1 o g.0))

module _ (b : Limits) (W : Waits) where
  one_nearest : (w : Way) (u : Move) (t : ℕ) (o p : Option ℕ) → Nearest w b W u t o → Nearest w b W u t p → o ≡ p
  one_nearest After u t o p g h = one_first b.shuttles (λ _. b.moves) W u t o p g h
  one_nearest Ahead u t o p g h = one_last b.shuttles (λ _. b.moves) W u t o p g h

  abbrev ByRule : Way → (u t : ℕ) → ℕ → Type 0
  ByRule w u t c =
      ((u / 4096 ≡ t) × (c ≡ 0))
      ⊎ ((u / 4096 ≡ t → ⊥) × ((p : Option ℕ) × Ran (pick_of w) (look_of w (meant b W)) b.shuttles (u / 4096) (u % 4096) t p c))

  one_rounded : (w : Way) (u t c d : ℕ) → Rounded w b W u t c → Rounded w b W u t d → c ≡ d
  one_rounded w u t c d g h = go g.0 h.0
    where
      go : ByRule w u t c → ByRule w u t d → c ≡ d
      go (inl x) (inl y) = x.1 ∙ sym y.1
      go (inl x) (inr y) = absurd (y.0 x.0)
      go (inr x) (inl y) = absurd (x.0 y.0)
      go (inr x) (inr y) = one_ran (pick_of w) (look_of w (meant b W)) b.shuttles (u / 4096) (u % 4096) t x.1.0 y.1.0 c d x.1.1 y.1.1

  -- a question's finding and its rounds
  pub one_found : (w : Way) (u t : ℕ) (x y : Result (Option ℕ) Refusal) (c d : ℕ) → Found w b W u t x c → Found w b W u t y d → (x ≡ y) × (c ≡ d)
  one_found w u t (Ok x) (Ok y) c d g h =
      let p = g.1 in
      let q = h.1 in
      (ap Ok (p.1 ∙ ap (coded t) (one_nearest w (move_of u) t p.0 q.0 p.2 q.2) ∙ sym q.1), one_rounded w u t c d g.2 h.2)
  one_found w u t (Ok x) (Err e) c d g h = not_both _ e g.0 h.0
  one_found w u t (Err e) (Ok y) c d g h = not_both _ e h.0 g.0
  one_found w u t (Err e) (Err f) c d g h = (one_refusal _ e f g.0 h.0, g.1 ∙ sym h.1)

  -- whether u is before v, and the rounds
  pub one_told : (u v : ℕ) (x y : Result Bool Refusal) (c d : ℕ) → Tells b W u v x c → Tells b W u v y d → (x ≡ y) × (c ≡ d)
  one_told u v (Ok x) (Ok y) c d g h = (ap Ok (same_truth x y g.1 h.1), one_rounded After u (v / 4096) c d g.3 h.3)
  one_told u v (Ok x) (Err e) c d g h = not_both _ e g.0 h.0
  one_told u v (Err e) (Ok y) c d g h = not_both _ e h.0 g.0
  one_told u v (Err e) (Err f) c d g h = (one_refusal _ e f g.0 h.0, g.1 ∙ sym h.1)

  pub one_placed : (u v : ℕ) (x y : Result Unit Refusal) → Placed b W u v x → Placed b W u v y → x ≡ y
  one_placed u v x y g h = g.2 ∙ ap (λ c. place_gives b W c u v) (same_truth g.0 h.0 g.1 h.1) ∙ sym h.2

  -- what a list leaves in its slice, and how many codes
  pub one_listed : (old new new' : List ℕ) (x y : Result ℕ Refusal) → Listed b W old new x → Listed b W old new' y → (x ≡ y) × (new ≡ new')
  one_listed old new new' x y g h =
      let C : List Move → Type 0 = λ L. Lists b.shuttles (lengths b) W L × Running b.shuttles (lengths b) W L × ((M : List Move) → Lists b.shuttles (lengths b) W M → M ≡ L) in
      one_filled (b.shuttles * b.moves) C (λ L M p q. q.2 L p.0) old new new' x y g h

  -- a push does so too; refused, it leaves the slice as it was
  one_pushed_by : (c : Result Unit Refusal) (v : ℕ) (old new new' : List ℕ) (x y : Result ℕ Refusal) → PushedBy c b W v old new x → PushedBy c b W v old new' y → (x ≡ y) × (new ≡ new')
  one_pushed_by (Ok z) v old new new' x y g h =
      let C : List Move → Type 0 = λ L. Pushes b.shuttles (lengths b) W (move_of v) L × Running b.shuttles (lengths b) W L × ((M : List Move) → Pushes b.shuttles (lengths b) W (move_of v) M → M ≡ L) in
      one_filled (b.shuttles * b.moves) C (λ L M p q. q.2 L p.0) old new new' x y g h
  one_pushed_by (Err e) v old new new' x y g h = (g.0 ∙ sym h.0, g.1 ∙ sym h.1)

  pub one_pushed : (v : ℕ) (old new new' : List ℕ) (x y : Result ℕ Refusal) → Pushed b W v old new x → Pushed b W v old new' y → (x ≡ y) × (new ≡ new')
  one_pushed v old new new' x y g h = one_pushed_by (move_check b.shuttles b.moves v) v old new new' x y g h

  -- whether codes are a running order
  pub one_tested : (codes : List ℕ) (x y : Bool) → Tested b W codes x → Tested b W codes y → x ≡ y
  one_tested codes x y g h = same_truth x y g h
