use Rattle.std.proofs.Common.{◌+◌, ◌*◌, ◌≤◌, refl, arith}
use Rattle.std.proofs.lemmas.Nat.{mul-le}
use Rattle.fulltree.proofs.full.start_of.Goals as goal

pub returns : goal.returns
returns c =
    let s = c.args.s in
    let k = c.args.shuttles in
    let pair : s * k + c.args.t ≤ 4294901760 = omega (arith, mul-le s k 65535 65535 (omega arith) (omega arith)) in
    record { at = refl; few = omega (arith, mul-le (s * k + c.args.t) (2 * c.args.leaves) 4294901760 131070 pair (omega arith)) }
