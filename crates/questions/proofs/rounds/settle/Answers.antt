use Rattle.std.proofs.Common.{sym, refl, ◌∙◌, subst, arith, rules}
use mathlib.Core.Bool.{false≢true}
use Rattle.order.specs.Rounds.{Table}
use Rattle.questions.specs.Looking.{look_of, pick_of, Places}
use Rattle.questions.proofs.Looks.{look_under}
use Rattle.questions.proofs.Relaxing.{pulled_skip, pulled_step, pulled_all, swept_skip, swept_step, swept_all}
use Rattle.questions.proofs.Turns.{turning_none, turning_less, turning_more, turning_ends, turning_small}
use Rattle.questions.proofs.rounds.settle.Goals as goal
use Rattle.questions.proofs.rounds.settle.Goals.{then-r-q, else-r-q, then-q-s+else-loop-r-test, else-q-s}

pub loop-r-preserved : goal.loop-r-preserved
loop-r-preserved g c =
    let f : Table = look_of c.args.way (g.T.Table.meaning c.args.table.now) in
    elim c.if-r-q.branch [
      | then-r-q w ↦ (
        pulled_step (pick_of c.args.way) f _ _ _ c.loop-q.q c.loop-r.r c.loop-r.invariant.0 w.if-r-q.true (w.row-is ∙ w.relax.ensures),
        search rules,
      )
      | else-r-q w ↦ (pulled_skip (pick_of c.args.way) f _ _ _ c.loop-q.q c.loop-r.r c.loop-r.invariant.0 w.if-r-q.false w.row-is, search rules)
    ]

pub loop-q-preserved : goal.loop-q-preserved
loop-q-preserved g c =
    let f : Table = look_of c.args.way (g.T.Table.meaning c.args.table.now) in
    elim c.if-q-s.branch [
      | then-q-s+else-loop-r-test w ↦ (
        swept_step (pick_of c.args.way) f _ _ _ c.args.k c.args.s c.loop-q.q c.loop-q.invariant.0 w.if-q-s.true
            (w.row-is ∙ pulled_all (pick_of c.args.way) f c.args.k _ _ c.loop-q.q w.loop-r.r w.loop-r-test.false w.loop-r.auto.r-end w.loop-r.invariant.0),
        search rules,
      )
      | else-q-s w ↦ (
        swept_skip (pick_of c.args.way) f _ _ _ c.args.k c.args.s c.loop-q.q c.loop-q.invariant.0 w.if-q-s.false w.row-is,
        search rules,
      )
    ]

pub rounds-init : goal.rounds-init
rounds-init g c = turning_none c.args.way _ _ (look_under c.args.way _ (g.T.Table.lawful c.args.table.now)) c.args.k c.args.s c.args.first (search rules) c.requires.places

pub overflow_add-rounds : goal.overflow_add-rounds
overflow_add-rounds g c =
    let law = g.T.Table.lawful c.args.table.now in
    omega (arith, turning_small c.args.way _ _ c.args.k c.args.s c.rounds.invariant law.moves_few c.requires.places (search rules))

pub rounds-smaller : goal.rounds-smaller
rounds-smaller g c =
    turning_less c.args.way _ _ (look_under c.args.way _ (g.T.Table.lawful c.args.table.now)) c.args.k c.args.s c.rounds.invariant c.loop-q.row
    (swept_all (pick_of c.args.way) _ c.args.k _ _ c.args.s c.loop-q.q c.loop-q-test.false c.loop-q.auto.q-end c.loop-q.invariant.0)
    (λ e. false≢true (c.if-unchanged.ensures.1 e))

pub rounds-preserved : goal.rounds-preserved
rounds-preserved g c =
    turning_more c.args.way _ _ (look_under c.args.way _ (g.T.Table.lawful c.args.table.now)) c.args.k c.args.s c.rounds.invariant c.loop-q.row
    (swept_all (pick_of c.args.way) _ c.args.k _ _ c.args.s c.loop-q.q c.loop-q-test.false c.loop-q.auto.q-end c.loop-q.invariant.0)
    (λ e. false≢true (c.if-unchanged.ensures.1 e))

pub returns : goal.returns
returns g c = record {
  comes = turning_ends c.args.way _ _ (look_under c.args.way _ (g.T.Table.lawful c.args.table.now)) c.args.k c.args.s c.rounds.invariant c.loop-q.row
      (swept_all (pick_of c.args.way) _ c.args.k _ _ c.args.s c.loop-q.q c.loop-q-test.false c.loop-q.auto.q-end c.loop-q.invariant.0)
      (c.if-unchanged.ensures.0 refl);
  places = subst (Places _) (sym (c.if-unchanged.ensures.0 refl)) c.rounds.invariant.places;
}
