use Rattle.std.proofs.Common.{arith}
use Rattle.fulltree.proofs.Powers.{leaves_is}
use Rattle.fulltree.proofs.full.leaves_for.Goals as goal

pub returns : goal.returns
returns c =
    let h = c.next_power_of_two.ensures in
    record { is = leaves_is c.args.moves _ h.power h.lower_bound h.upper_bound; few = omega arith }
