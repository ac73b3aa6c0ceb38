-- What a board's table answers is right of the waits that stand.
use Rattle.std.proofs.Common.{ℕ, [], ◌∷◌, Ok, sym, ap, subst, arith}
use Rattle.words.proofs.Checks.{then_ok}
use Rattle.tables.specs.Meaning.{least_of, last_of}
use Rattle.tables.specs.Answers.{allowed}
use Rattle.tables.proofs.Allowed.{allowed_from}
use Rattle.tables.proofs.Extremes.{least_smallest, last_greatest}
use Rattle.order.specs.Board.{Short}
use Rattle.order.specs.Rounds.{Right, RightBack}
use Rattle.order.specs.Cells.{Keeps, Smallest, Greatest, Scans, ScansBack}
use Rattle.order.proofs.Cells.{answers, answers_back, placing}
use Rattle.order.proofs.Ways.{fits}
use Rattle.questions.specs.declared.rounds.Way.TheVariants.{After}
use Rattle.questions.specs.Looking.{or_none, look_of}
use Rattle.running.specs.Calls.{last_look}
use Rattle.board.specs.Standing.{Limits, Waits, Sound, lengths, cells_of, meant}

-- each cell holds the smallest j of all waits s.i -> t.j
pub keeps_of : (k n : ℕ) (W : Waits) → Keeps k n W (cells_of W)
keeps_of k n [] = λ s t i ls lt d li b x. x
keeps_of k n (w ∷ W) = placing k n W (cells_of W) (keeps_of k n W) w.0 w.1

module _ (b : Limits) (W : Waits) where
  scans : Scans b.shuttles b.moves (cells_of W) (look_of After (meant b W))
  scans s t i ls lt d li =
      subst (Smallest b.moves (cells_of W s t) i)
      (sym (ap or_none (then_ok (allowed b.shuttles b.moves s t i) (Ok (least_of (cells_of W s t) i b.moves)) (sym (allowed_from b.shuttles b.moves s t i (record { from_below = ls; to_below = lt; apart = d; place_below = li }))))))
      (least_smallest b.moves (cells_of W s t) i)

  scans_back : ScansBack b.shuttles b.moves (cells_of W) (last_look (meant b W))
  scans_back s t j ls lt d lj =
      subst (Greatest b.moves (cells_of W s t) j)
      (sym (ap or_none (then_ok (allowed b.shuttles b.moves s t j) (Ok (last_of (cells_of W s t) j b.moves)) (sym (allowed_from b.shuttles b.moves s t j (record { from_below = ls; to_below = lt; apart = d; place_below = lj }))))))
      (last_greatest b.moves (cells_of W s t) j)

  short : Short b.shuttles b.moves (lengths b)
  short s l = omega arith

  module _ (h : Sound b W) where
    pub right : Right b.shuttles (lengths b) W (look_of After (meant b W))
    right =
        answers b.shuttles b.moves (lengths b) W short (fits b.shuttles (lengths b) W h.ordered.0 h.ordered.1) (cells_of W) (look_of After (meant b W))
        (keeps_of b.shuttles b.moves W) scans

    pub right_back : RightBack b.shuttles (lengths b) W (last_look (meant b W))
    right_back =
        answers_back b.shuttles b.moves (lengths b) W short (fits b.shuttles (lengths b) W h.ordered.0 h.ordered.1) (cells_of W) (last_look (meant b W))
        (keeps_of b.shuttles b.moves W) scans_back
