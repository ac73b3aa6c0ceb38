use Rattle.std.proofs.Common.{sym, ◌∙◌, subst, arith}
use mathlib.Core.Bool.{false≢true}
use native.Mathlib.Decide.{ℕ_discrete}
use Rattle.running.specs.Progress.{Offers}
use Rattle.running.proofs.ready.pick.Goals as goal

pub loop-t-preserved : goal.loop-t-preserved
loop-t-preserved g c = λ q l o.
    elim (ℕ_discrete q c.loop-t.t) [
      | yes e ↦ false≢true (sym c.if-offers.false ∙ c.offers.ensures.1 (subst (Offers (g.T.Table.meaning c.args.table.now) c.args.done.now c.args.bounds.now) e o))
      | no n ↦ c.loop-t.invariant q (omega arith) o
    ]
