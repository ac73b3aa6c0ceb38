use Rattle.std.proofs.Common.{◌≡◌, ℕ, ◌<◌, length, get_or}
use Rattle.running.specs.Progress.{Counts}
use Rattle.running.proofs.filling.bounds_of.Given as goal

abbrev pub invariant-loop-t : goal.invariant-loop-t
invariant-loop-t g l = (length l.bounds ≡ 16) × ((q : ℕ) → q < l.t → Counts (g.T.Table.meaning l.table) l.v q (get_or l.bounds q 0))
