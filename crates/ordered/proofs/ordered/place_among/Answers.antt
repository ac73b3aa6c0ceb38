use Rattle.std.proofs.Common.{rules}
use Rattle.std.proofs.lemmas.List.Sorted.{IsPartitionPoint-from_clause}
use Rattle.ordered.specs.Ordered.{comes_before}
use Rattle.ordered.proofs.Places.{parted, place_is}
use Rattle.ordered.proofs.ordered.place_among.Goals as goal

pub returns : goal.returns
returns c =
    let l = c.args.waits.now in
    let u = c.args.wait.first in
    let v = c.args.wait.second in
    place_is l u v _ c.partition_point.ensures.bound
    (IsPartitionPoint-from_clause (λ w. comes_before w u v) l _ c.partition_point.ensures.partitioned (parted l u v c.requires) (λ a r f' k. search rules))
