use Rattle.std.proofs.Common.{arith}
use Rattle.questions.proofs.Inside.{move_on}
use Rattle.questions.proofs.asking.find.Goals as goal

pub search-entry-requires : goal.search-entry-requires
search-entry-requires g c =
    let law = g.T.Table.lawful c.args.table.now in
    let on = move_on _ _ c.args.u c.requires.of_move in
    record { few = omega arith; place = omega (arith, on.1); onto = omega arith }
