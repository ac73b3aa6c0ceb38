use Rattle.std.proofs.Common.{rules, ap, subst, arith}
use Rattle.board.specs.Standing.{limits}
use Rattle.station.specs.declared.edit.Header.{Header}
use Rattle.station.specs.Station.{Reported}
use Rattle.station.proofs.Files.{formed}
use Rattle.station.proofs.Reporting.{going_none, going_more, going_ends}
use Rattle.station.proofs.station.write_report.Goals as goal

pub loop-i-init : goal.loop-i-init
loop-i-init g c = record {
  same_bytes = search rules;
  going = going_none (limits (g.T.Table.meaning c.args.table) (g.S.Store.holding c.args.store)) c.args.file.now c.args.report.now c.args.header c.requires.told c.type_inv.file _ _ _ _
      c.make-board.ensures (search rules);
}

pub take_step-outcome-requires : goal.take_step-outcome-requires
take_step-outcome-requires g c =
    let f = formed _ c.requires.formed in
    let n = ap (λ (x : Header). x.steps) c.requires.told in
    (omega (arith, f.whole, n), omega (arith, f.whole, f.few, n))

pub put_line-requires : goal.put_line-requires
put_line-requires g c = let f = formed _ c.requires.formed in omega (arith, c.loop-i.invariant.going.room, f.whole, f.few, ap (λ (x : Header). x.steps) c.requires.told)

pub loop-i-preserved : goal.loop-i-preserved
loop-i-preserved g c =
    let f = formed _ c.requires.formed in
    record {
      same_bytes = search rules;
      going = going_more (limits (g.T.Table.meaning c.args.table) (g.S.Store.holding c.args.store)) c.args.file.now c.args.report.now c.loop-i.invariant.going
          (g.T.Table.lawful c.args.table).shuttles_few c.take_step-outcome.result _ _ _ _
          (omega (arith, f.whole, f.few, ap (λ (x : Header). x.steps) c.requires.told)) c.take_step-outcome.ensures c.put_line.ensures.written;
    }

pub returns-clause-reported : goal.returns-clause-reported
returns-clause-reported g c =
    subst (λ ys. Reported (limits (g.T.Table.meaning c.args.table) (g.S.Store.holding c.args.store)) c.args.file.now c.args.report.now ys c.loop-i.page.end) (search rules)
    (going_ends (limits (g.T.Table.meaning c.args.table) (g.S.Store.holding c.args.store)) c.args.file.now c.args.report.now c.loop-i.invariant.going
    (g.T.Table.lawful c.args.table).shuttles_few (omega (arith, ap (λ (x : Header). x.steps) c.requires.told)) c.requires.room)

pub returns-clause-short : goal.returns-clause-short
returns-clause-short g c = omega (arith, c.loop-i.invariant.going.room, ap (λ (x : Header). x.steps) c.requires.told)
