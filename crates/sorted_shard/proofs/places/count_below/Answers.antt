use Rattle.std.proofs.Common.{rules}
use Rattle.std.specs.Ordering.{is_lt}
use Rattle.std.proofs.lemmas.List.Sorted.{IsPartitionPoint-from_clause}
use Rattle.sorted_shard.specs.Shelves.{order}
use Rattle.sorted_shard.proofs.Sorting.{parted_below}
use Rattle.sorted_shard.proofs.places.count_below.Goals as goal

pub returns-clause-below : goal.returns-clause-below
returns-clause-below c =
    let digest = c.args.digest.now.0 in
    let entries = c.args.entries.now in
    let point = IsPartitionPoint-from_clause (λ e. is_lt (order e digest)) entries c.partition_point.result c.partition_point.ensures.partitioned (parted_below entries digest c.requires)
    (λ a r q k. search rules) in
    point.0

pub returns-clause-others : goal.returns-clause-others
returns-clause-others c =
    let digest = c.args.digest.now.0 in
    let entries = c.args.entries.now in
    let point = IsPartitionPoint-from_clause (λ e. is_lt (order e digest)) entries c.partition_point.result c.partition_point.ensures.partitioned (parted_below entries digest c.requires)
    (λ a r q k. search rules) in
    point.1
