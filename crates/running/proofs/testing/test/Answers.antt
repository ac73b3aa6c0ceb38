use Rattle.std.proofs.Common.{sym, refl, ◌∙◌, arith, length-set}
use mathlib.Core.Bool.{false≢true}
use Rattle.running.proofs.Tests.{test_more, test_stops, test_ends, test_long}
use Rattle.running.proofs.testing.test.Goals as goal

pub returns-then-codes-aisle : goal.returns-then-codes-aisle
returns-then-codes-aisle g c =
    let few = (g.T.Table.lawful c.args.table.now).shuttles_few in
    record {
      decides = λ W v. (
        λ e. absurd (false≢true e),
        λ R. absurd (test_long (g.T.Table.meaning c.args.table.now) W v few c.args.codes.now c.args.codes.now (λ e. c.if-codes-aisle.true (cc)) R),
      );
    }

pub returns-then-not-follows : goal.returns-then-not-follows
returns-then-not-follows g c =
    let few = (g.T.Table.lawful c.args.table.now).shuttles_few in
    record {
      decides = λ W v. (
        λ e. absurd (false≢true e),
        λ R. absurd (test_stops _ W v few c.args.codes.now c.loop-code.done c.loop-code.code-index (omega arith) (c.loop-code.invariant.1 W v) (λ f. false≢true (sym c.if-not-follows.true ∙ c.follows.ensures.1 f)) R),
      );
    }

pub loop-code-preserved : goal.loop-code-preserved
loop-code-preserved g c =
    let few = (g.T.Table.lawful c.args.table.now).shuttles_few in (
      length-set c.loop-code.done _ _ ∙ c.loop-code.invariant.0,
      λ W v. simp (c.shuttle.ensures, c.place.ensures) (test_more _ W v few c.args.codes.now c.loop-code.done c.loop-code.code-index c.loop-code.invariant.0 (omega arith) (c.loop-code.invariant.1 W v) (c.follows.ensures.0 c.if-not-follows.false)),
    )

pub returns : goal.returns
returns g c =
    let few = (g.T.Table.lawful c.args.table.now).shuttles_few in
    record { decides = λ W v. (λ _. test_ends _ W v few c.args.codes.now c.loop-code.done c.loop-code.code-index (omega arith) (cc) (c.loop-code.invariant.1 W v), λ _. refl) }
