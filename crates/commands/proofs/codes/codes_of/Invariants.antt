use Rattle.std.proofs.Common.{◌≡◌, take, map, Ok}
use Rattle.commands.specs.Calls.{coded}
use Rattle.commands.proofs.codes.codes_of.Given as goal

abbrev pub invariant-loop-it : goal.invariant-loop-it
invariant-loop-it l = map Ok l.codes.items ≡ map (coded 16 4096) (take l.it-index l.moves)
