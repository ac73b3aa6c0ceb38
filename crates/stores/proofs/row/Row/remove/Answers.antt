use Rattle.std.proofs.Common.{arith, nat_lt}
use Rattle.std.proofs.lemmas.Bool.{ltb-true}
use Rattle.words.proofs.Checks.{unless_passed}
use Rattle.stores.proofs.Shifts.{copied_down}
use Rattle.stores.proofs.row.Row.remove.Goals as goal

pub returns-clause-records : goal.returns-clause-records
returns-clause-records c =
    let s = c.args.self.now in
    let used = ltb-true c.args.place s.count (unless_passed (nat_lt c.args.place s.count) 5 c.in_ok-check_used.ensures) in
    copied_down s.records.now s.count c.args.place used (omega (arith, s.few)) c.copy_within.new.self (omega arith) c.copy_within.ensures.by_index
