use Rattle.questions.proofs.Inside.{moves_checked}
use Rattle.questions.proofs.asking.precedes.Goals as goal

pub find-found-requires : goal.find-found-requires
find-found-requires g c =
    let on = moves_checked _ _ _ _ c.args.u c.args.v c.sizes.ensures.shuttles c.sizes.ensures.moves c.in_default.ensures in
    record { of_move = on.0; of_shuttle = simp c.shuttle.ensures on.1 }
