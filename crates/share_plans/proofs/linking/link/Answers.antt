use Rattle.share_plans.specs.laws.LinkRecordLaws.{count_other}
use Rattle.share_plans.proofs.linking.link.Goals as goal

pub with_counts-requires-clause-other : goal.with_counts-requires-clause-other
with_counts-requires-clause-other c =
    count_other c.args.core.now c.args.pair _ _ _ c.marks-entry.result c.lowered-low.result c.marks-entry.ensures c.lowered-low.ensures

pub with_counts-requires-clause-others : goal.with_counts-requires-clause-others
with_counts-requires-clause-others c =
    count_other c.args.core.now c.args.pair _ _ _ c.marks-entry.result c.raised_in-high.result c.marks-entry.ensures c.raised_in-high.ensures

pub with_counts-requires-else-pair-clause-other : goal.with_counts-requires-else-pair-clause-other
with_counts-requires-else-pair-clause-other c =
    count_other c.args.core.now c.args.pair _ _ _ c.marks-entry.result c.raised_in-high.result c.marks-entry.ensures c.raised_in-high.ensures

pub with_counts-requires-else-pair-clause-others : goal.with_counts-requires-else-pair-clause-others
with_counts-requires-else-pair-clause-others c =
    count_other c.args.core.now c.args.pair _ _ _ c.marks-entry.result c.lowered-low.result c.marks-entry.ensures c.lowered-low.ensures
