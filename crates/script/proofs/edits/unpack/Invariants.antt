use Rattle.std.proofs.Common.{◌≡◌, ◌++◌, string_bytes}
use Rattle.std.specs.List.{flat_map}
use Rattle.station.specs.Edit.{steps_below}
use Rattle.script.specs.Texts.{told_text}
use Rattle.script.proofs.edits.unpack.Given as goal

abbrev pub invariant-loop-i : goal.invariant-loop-i
invariant-loop-i l = string_bytes l.script ≡ string_bytes l.initial.script ++ flat_map told_text (steps_below l.file l.i)
