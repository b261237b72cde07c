use Rattle.std.proofs.Common.{arith, subst}
use Rattle.disk_locks.specs.Consistent.{Consistent}
use Rattle.merge_plan.specs.laws.ShardSteps.{shard_in, shard_read, shard_there}
use Rattle.merge_plan.proofs.shards.reads.Goals as goal

pub overflow_mul-shelf : goal.overflow_mul-shelf
overflow_mul-shelf g c =
    let most = (subst Consistent c.locks.ensures c.geometry-geometry.ensures.consistent).geometry.shards.1 in
    let below = shard_in c.args.world.now.locks.geometry c.args.shelf c.args.k c.requires.stands.1.1.block in omega (arith, most, below)

pub overflow_add-shelf : goal.overflow_add-shelf
overflow_add-shelf g c =
    let most = (subst Consistent c.locks.ensures c.geometry-geometry.ensures.consistent).geometry.shards.1 in
    let below = shard_in c.args.world.now.locks.geometry c.args.shelf c.args.k c.requires.stands.1.1.block in omega (arith, most, below)

pub reads_index-read-requires-clause-stands : goal.reads_index-read-requires-clause-stands
reads_index-read-requires-clause-stands g c = c.requires.stands.1.0

pub reads_index-read-requires-clause-has : goal.reads_index-read-requires-clause-has
reads_index-read-requires-clause-has g c =
    shard_in c.args.world.now.locks.geometry c.args.shelf c.args.k c.requires.stands.1.1.block

pub behind_block-requires : goal.behind_block-requires
behind_block-requires g c =
    shard_there c.args.world.now c.reads_index-read.new.world c.args.host c.args.shelf c.args.k
    (subst Consistent c.locks.ensures c.geometry-geometry.ensures.consistent)
    (subst Consistent c.locks-2.ensures c.geometry-geometry-2.ensures.consistent) c.args.room.now c.requires.stands.1.0 c.in-Ok.block
    c.requires.stands.1.1 c.in-Ok.ensures.went

pub returns-in-Ok-clause-went : goal.returns-in-Ok-clause-went
returns-in-Ok-clause-went g c =
    shard_read c.args.world.now c.reads_index-read.new.world c.args.host c.args.shelf c.args.k
    (subst Consistent c.locks.ensures c.geometry-geometry.ensures.consistent)
    (subst Consistent c.locks-2.ensures c.geometry-geometry-2.ensures.consistent) c.args.room.now c.requires.stands.1.0 c.in-Ok.block
    c.requires.stands.1.1 c.in-Ok.ensures.went c.behind_block.new.room c.behind_block.result c.behind_block.ensures

pub returns-in-Ok-clause-others : goal.returns-in-Ok-clause-others
returns-in-Ok-clause-others g c = c.in-Ok.ensures.others

pub returns-in-Err-clause-cut : goal.returns-in-Err-clause-cut
returns-in-Err-clause-cut g c = c.in-Err.ensures.cut

pub returns-in-Err-clause-others : goal.returns-in-Err-clause-others
returns-in-Err-clause-others g c = c.in-Err.ensures.others
