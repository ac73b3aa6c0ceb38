use Rattle.std.proofs.Common.{◌∙◌}
use Rattle.script.proofs.Packed.{file_forms}
use Rattle.script.proofs.edits.Packing.finish.Goals as goal

pub returns : goal.returns
returns c =
    file_forms _ _ c.as_slice.result.now _ _ _ _ _ _ c.args.self.steps c.in_ok-extend_from_slice.ensures.items (c.in_ok-file.ensures.items ∙ c.as_flattened.ensures.value)
    c.to_be_bytes.ensures c.to_be_bytes-2.ensures c.to_be_bytes-3.ensures c.to_be_bytes-4.ensures (c.as_slice.ensures.len ∙ c.args.self.size) c.args.self.few
