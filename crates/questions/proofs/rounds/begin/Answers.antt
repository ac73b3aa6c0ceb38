use Rattle.std.proofs.Common.{cond, eqb, Some, ◌∙◌, arith, length-set, rules, eq-eqb, ne_eqb}
use Rattle.questions.specs.Looking.{look_of}
use Rattle.tables.specs.Meaning.{Meaning}
use Rattle.questions.proofs.Begun.{begun_more}
use Rattle.questions.proofs.Falls.{places_none, places_set, under_by}
use Rattle.questions.proofs.Looks.{look_under}
use Rattle.questions.proofs.rounds.begin.Goals as goal
use Rattle.questions.proofs.rounds.begin.Goals.{then-r-s, else-r-s}

pub loop-r-init : goal.loop-r-init
loop-r-init g c = (search rules, places_none _ 16, λ q l. absurd (omega arith))

pub loop-r-preserved : goal.loop-r-preserved
loop-r-preserved g c =
    let m : Meaning = g.T.Table.meaning c.args.table.now in (
      length-set c.loop-r.row c.loop-r.r _ ∙ c.loop-r.invariant.0,
      places_set m.moves c.loop-r.row c.loop-r.r c.if-r-s.row
          (elim c.if-r-s.branch [
            | then-r-s w ↦ under_by m.moves w.row-is c.requires.place
            | else-r-s w ↦ under_by m.moves (w.row-is ∙ w.look.ensures) (look_under c.args.way m (g.T.Table.lawful c.args.table.now) c.args.s c.loop-r.r c.args.i)
          ]) c.loop-r.invariant.1,
      begun_more (λ q. cond (eqb q c.args.s) (Some c.args.i) (look_of c.args.way m c.args.s q c.args.i))
          c.loop-r.row c.loop-r.r c.if-r-s.row (omega arith) c.loop-r.invariant.2
          (elim c.if-r-s.branch [
            | then-r-s w ↦ rw (eq-eqb c.loop-r.r c.args.s w.if-r-s.true) w.row-is
            | else-r-s w ↦ rw (ne_eqb c.loop-r.r c.args.s w.if-r-s.false) (w.row-is ∙ w.look.ensures)
          ]),
    )

pub returns : goal.returns
returns g c = record { begins = (omega arith, λ q l. c.loop-r.invariant.2 q (omega arith)); places = c.loop-r.invariant.1 }
