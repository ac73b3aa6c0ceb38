use Rattle.std.proofs.Common.{arith, nat_lt, length, ap, ◌∙◌}
use Rattle.std.proofs.lemmas.Bool.{ltb-true}
use Rattle.words.proofs.Checks.{unless_passed}
use Rattle.stores.specs.Rows.{room, put_in}
use Rattle.stores.proofs.Shifts.{copied_up}
use Rattle.stores.proofs.row.Row.insert.Goals as goal

pub returns-clause-records : goal.returns-clause-records
returns-clause-records c =
    let s = c.args.self.now in
    let free = ltb-true s.count (room (length s.records.now)) (unless_passed (nat_lt s.count (room (length s.records.now))) 7 c.in_ok-check_room.ensures) in
    copied_up s.records.now s.count c.min-place.result c.args.wait (omega arith) (omega (arith, free)) c.copy_within.new.self (omega arith) c.copy_within.ensures.by_index
    ∙ ap (λ p. put_in s.records.now s.count p c.args.wait) c.min-place.ensures
