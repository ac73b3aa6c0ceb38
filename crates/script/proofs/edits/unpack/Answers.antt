use Rattle.std.proofs.Common.{sym, ◌∙◌}
use Rattle.script.proofs.Unpacked.{one_more}
use Rattle.script.proofs.edits.unpack.Goals as goal

pub loop-i-preserved : goal.loop-i-preserved
loop-i-preserved c = one_more c.args.file.now _ _ _ c.loop-i.i _ c.loop-i.invariant (sym c.read_step.ensures ∙ c.in_ok-ok_or.ensures.ok_part) c.in_ok-write.ensures.bytes
