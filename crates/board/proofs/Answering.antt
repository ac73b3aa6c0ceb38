-- The questions' answers, where the waits stand.
use Rattle.std.proofs.Common.{◌≡◌, ℕ, ◌+◌, ◌*◌, ◌/◌, ◌%◌, ◌<◌, Bool, true, ◌↔◌, Some, None, Ok, Err, Option, Result, sym, refl, ap, ◌∙◌, subst, inl, inr, arith}
use Rattle.std.proofs.lemmas.Bool.{le-leb, leb-true}
use Rattle.words.specs.declared.Refusal.{Refusal}
use Rattle.words.specs.Codes.{move_of}
use Rattle.order.specs.Lists.{there}
use Rattle.order.specs.Board.{On, Before}
use Rattle.order.specs.Rounds.{Ran, Upto, FirstAfter, LastBefore}
use Rattle.order.proofs.After.{finds, bounded, tells}
use Rattle.order.proofs.Before.{finds_back, bounded_back}
use Rattle.order.proofs.Laws.{exact}
use Rattle.order.proofs.Ways.{no_back, on_before}
use Rattle.questions.specs.declared.rounds.Way.{Way}
use Rattle.questions.specs.declared.rounds.Way.TheVariants.{After, Before as Ahead}
use Rattle.questions.specs.Looking.{pick_of, look_of}
use Rattle.questions.specs.Asking.{coded, up_to, Finding, Asked, Told}
use Rattle.questions.proofs.Inside.{moves_on, question_on}
use Rattle.board.specs.Standing.{Limits, Waits, Sound, lengths, meant, Nearest, Rounded, Found, Tells}
use Rattle.running.specs.Calls.{last_look}
use Rattle.board.proofs.Scans.{right, right_back}

-- a finding on v's shuttle is at or before v exactly where its place is
up_to_says : (o : Option ℕ) (v : ℕ) → (up_to (coded (v / 4096) o) v ≡ true) ↔ Upto o (v % 4096)
up_to_says None v = (λ e. let z : ◌≡◌ {A = ℕ} 0 1 = cc in omega arith, λ x. absurd x)
up_to_says (Some p) v = (λ e. omega (arith, leb-true (v / 4096 * 4096 + p) v e), λ l. le-leb (v / 4096 * 4096 + p) v (omega arith))

module _ (b : Limits) (W : Waits) (h : Sound b W) where
  -- what the rounds give
  ran : (w : Way) (s i t : ℕ) → On b.shuttles (lengths b) (s, i) → t < b.shuttles → (s ≡ t → ⊥) → (o : Option ℕ) (c : ℕ)
      → Ran (pick_of w) (look_of w (meant b W)) b.shuttles s i t o c → Nearest w b W (s, i) t o × (c < b.shuttles)
  ran After s i t on lt d o c r =
      let e = r.2 in (
        subst (FirstAfter b.shuttles (lengths b) W (s, i) t) (sym e.4)
            (finds b.shuttles (lengths b) W h.ordered (look_of After (meant b W)) (right b W h) s i on r.0 r.1 e.0 e.2 t lt),
        subst (λ x. x < b.shuttles) (sym e.1)
            (bounded b.shuttles (lengths b) W h.ordered (look_of After (meant b W)) (right b W h) s i on r.0 r.1 (omega arith) e.0 e.3),
      )
  ran Ahead s i t on lt d o c r =
      let e = r.2 in (
        subst (LastBefore b.shuttles (lengths b) W (s, i) t) (sym e.4)
            (finds_back b.shuttles (lengths b) W h.ordered (last_look (meant b W)) (right_back b W h) s i on r.0 r.1 e.0 e.2 t lt),
        subst (λ x. x < b.shuttles) (sym e.1)
            (bounded_back b.shuttles (lengths b) W h.ordered (last_look (meant b W)) (right_back b W h) s i on r.0 r.1 (omega arith) e.0 e.3),
      )

  -- on a move's own shuttle it is the nearest itself
  own : (w : Way) (s i : ℕ) → On b.shuttles (lengths b) (s, i) → Nearest w b W (s, i) s (Some i)
  own After s i on = (there refl, λ j p. no_back b.shuttles (lengths b) W h.ordered.0 h.ordered.1 s i j on p)
  own Ahead s i on = (
    there refl,
    λ j p. no_back b.shuttles (lengths b) W h.ordered.0 h.ordered.1 s j i (on_before b.shuttles (lengths b) W h.ordered.0 h.ordered.1 p on) p,
  )

  pub finding : (w : Way) (u t : ℕ) → On b.shuttles (lengths b) (move_of u) → t < b.shuttles → (o : Option ℕ) (c : ℕ) → Finding w (meant b W) u t o c
      → ((p : Option ℕ) × (o ≡ coded t p) × Nearest w b W (move_of u) t p) × Rounded w b W u t c
  finding w u t on lt o c (inl e) =
      let code : u ≡ t * 4096 + u % 4096 = omega (arith, e.0) in (
        (Some (u % 4096), e.1 ∙ ap Some code, subst (λ x. Nearest w b W (move_of u) x (Some (u % 4096))) e.0 (own w (u / 4096) (u % 4096) on)),
        (inl (e.0, e.2), omega (arith, e.2, on.0)),
      )
  finding w u t on lt o c (inr e) =
      let f = e.1 in
      let r = ran w (u / 4096) (u % 4096) t on lt e.0 f.0 c f.2 in
      ((f.0, f.1, r.0), (inr (e.0, (f.0, f.2)), r.1))

  pub found : (w : Way) (u t : ℕ) (a : Result (Option ℕ) Refusal) (c : ℕ) → Asked w (meant b W) u t a c → Found w b W u t a c
  found w u t (Ok o) c g =
      let on = question_on b.shuttles b.moves u t g.0 in
      let f = finding w u t on.0 on.1 o c g.1 in
      (g.0, f.0, f.1)
  found w u t (Err e) c g = g

  -- the answer whether u is before v
  pub told : (u v : ℕ) → On b.shuttles (lengths b) (move_of u) → On b.shuttles (lengths b) (move_of v) → (o : Option ℕ) (c : ℕ) → Finding After (meant b W) u (v / 4096) o c
      → (up_to o v ≡ true) ↔ Before b.shuttles (lengths b) W (move_of u) (move_of v)
  told u v on on' o c g =
      let f = (finding After u (v / 4096) on on'.0 o c g).0 in
      let t = tells b.shuttles (lengths b) W (move_of u) (v / 4096) f.0 f.2 (v % 4096) on' in
      let q : (up_to o v ≡ true) ↔ Upto f.0 (v % 4096) = subst (λ x. (up_to x v ≡ true) ↔ Upto f.0 (v % 4096)) (sym f.1) (up_to_says f.0 v) in
      (λ x. t.1 (q.0 x), λ p. q.1 (t.0 p))

  pub tells_before : (u v : ℕ) (a : Result Bool Refusal) (c : ℕ) → Told (meant b W) u v a c → Tells b W u v a c
  tells_before u v (Ok y) c g =
      let on = moves_on b.shuttles b.moves u v g.0 in
      let f = g.1 in
      let t = told u v on.0 on.1 f.0 c f.1 in
      let says : (y ≡ true) ↔ Before b.shuttles (lengths b) W (move_of u) (move_of v) = (λ x. t.0 (sym f.2 ∙ x), λ p. f.2 ∙ t.1 p) in (
        g.0,
        says,
        (λ ne. let x = exact b.shuttles (lengths b) W h.ordered (move_of u) (move_of v) on.0 on.1 ne in (λ z. x.0 (says.0 z), λ z. says.1 (x.1 z))),
        (finding After u (v / 4096) on.0 on.1.0 f.0 c f.1).1,
      )
  tells_before u v (Err e) c g = g
