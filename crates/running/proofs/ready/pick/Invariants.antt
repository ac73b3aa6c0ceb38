use Rattle.std.proofs.Common.{ℕ, ◌<◌}
use Rattle.running.specs.Progress.{Offers}
use Rattle.running.proofs.ready.pick.Given as goal

abbrev pub invariant-loop-t : goal.invariant-loop-t
invariant-loop-t g l = (q : ℕ) → q < l.t → Offers (g.T.Table.meaning l.table) l.done l.bounds q → ⊥
