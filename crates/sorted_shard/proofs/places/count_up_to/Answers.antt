use Rattle.std.proofs.Common.{rules}
use Rattle.std.specs.Ordering.{is_le}
use Rattle.std.proofs.lemmas.List.Sorted.{IsPartitionPoint-from_clause}
use Rattle.sorted_shard.specs.Shelves.{order}
use Rattle.sorted_shard.proofs.Sorting.{parted_up_to}
use Rattle.sorted_shard.proofs.places.count_up_to.Goals as goal

pub returns-clause-up_to : goal.returns-clause-up_to
returns-clause-up_to c =
    let digest = c.args.digest.now.0 in
    let entries = c.args.entries.now in
    let point = IsPartitionPoint-from_clause (λ e. is_le (order e digest)) entries c.partition_point.result c.partition_point.ensures.partitioned (parted_up_to entries digest c.requires)
    (λ a r q k. search rules) in
    point.0

pub returns-clause-others : goal.returns-clause-others
returns-clause-others c =
    let digest = c.args.digest.now.0 in
    let entries = c.args.entries.now in
    let point = IsPartitionPoint-from_clause (λ e. is_le (order e digest)) entries c.partition_point.result c.partition_point.ensures.partitioned (parted_up_to entries digest c.requires)
    (λ a r q k. search rules) in
    point.1
