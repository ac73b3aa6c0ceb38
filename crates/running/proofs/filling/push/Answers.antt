use Rattle.running.proofs.Calls.{pushed_of}
use Rattle.running.proofs.filling.push.Goals as goal

pub returns : goal.returns
returns g c =
    let told = c.sizes.ensures in
    pushed_of _ c.args.v _ _ told.shuttles told.moves c.in_ok-check_move.ensures _ c.args.out.now c.fill.new.out c.fill.result
    c.bounds_of-bounds.ensures c.fill.ensures
