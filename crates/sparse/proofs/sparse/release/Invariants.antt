use Rattle.std.proofs.Common.{◌≡◌, ℕ, ◌<◌, List, length}
use Rattle.sparse.specs.Form.{Chain}
use Rattle.sparse.proofs.Chains.{On}
use Rattle.sparse.proofs.sparse.release.Given as goal

abbrev pub invariant-loop-i : goal.invariant-loop-i
invariant-loop-i l = (us : List ℕ) × Chain l.records l.head us × (length us ≡ l.i) × ((b : ℕ) → On b us → b < l.i)
