use Rattle.std.proofs.Common.{◌≡◌}
use Rattle.board.specs.Standing.{limits}
use Rattle.station.proofs.Reporting.{Going}
use Rattle.station.proofs.station.write_report.Given as goal

-- the first i steps are carried out and written, on the same page
abbrev pub invariant-loop-i : goal.invariant-loop-i
invariant-loop-i g l = record {
  same_bytes : l.page.bytes.ghost_name ≡ l.initial.page.bytes.ghost_name;
  going : Going (limits (g.T.Table.meaning l.fn.table) (g.S.Store.holding l.fn.store)) l.file l.fn.report l.i l.page.end l.page.bytes.now (g.T.Table.meaning l.board.table)
      (g.S.Store.holding l.board.store);
}
