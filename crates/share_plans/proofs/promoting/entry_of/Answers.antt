use Rattle.std.proofs.Common.{◌+◌}
use Rattle.share_plans.specs.laws.PromoteCommits.{second_other, third_other}
use Rattle.share_plans.proofs.promoting.entry_of.Goals as goal

pub add-requires-clause-other : goal.add-requires-clause-other
add-requires-clause-other c =
    second_other c.args.slot (c.args.block + 1) c.args.core.now.file c.args.core.now.index _ _
    c.new-entry.result c.mark.result c.new-entry.ensures c.mark.ensures

pub add-requires-2-clause-other : goal.add-requires-2-clause-other
add-requires-2-clause-other c =
    third_other c.args.slot (c.args.block + 1) c.args.core.now.file c.args.core.now.index _ _ c.args.block
    c.new-entry.result c.mark.result c.add.new.entry
    c.new-entry.ensures c.mark.ensures c.add.ensures
