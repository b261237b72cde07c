use Rattle.std.proofs.Common.{◌-◌, arith}
use Rattle.file_plans.specs.laws.PurgeLoopLaws.{counting_next}
use Rattle.file_plans.proofs.purging.add_counts.Goals as goal

pub loop-left-preserved : goal.loop-left-preserved
loop-left-preserved c =
    counting_next c.args.table.now c.args.remains.now c.args.entry.now c.loop-left.entry c.add_count-from.new.entry (c.loop-left._left - 1)
    c.loop-left._left c.loop-left.from (omega (arith, c.loop-left-test.true)) c.loop-left.invariant c.add_count-from.result
    c.add_count-from.ensures.entry c.add_count-from.ensures.bound
