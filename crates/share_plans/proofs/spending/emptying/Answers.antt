use Rattle.std.proofs.Common.{◌∙◌, sym}
use Rattle.vol_layout.specs.Ranges.{per_table}
use Rattle.share_plans.specs.laws.SpentLaws.{record_few}
use Rattle.share_plans.proofs.spending.emptying.Goals as goal

pub with_counts-requires-clause-few : goal.with_counts-requires-clause-few
with_counts-requires-clause-few c =
    (record_few c.args.part_no c.args.part.now c.args.group_no c.args.group.now c.args.key.0 per_table c.in-Some.slots
    (sym c.in-Some.is ∙ c.spent_slots.ensures)).0

pub with_counts-requires-clause-other : goal.with_counts-requires-clause-other
with_counts-requires-clause-other c =
    (record_few c.args.part_no c.args.part.now c.args.group_no c.args.group.now c.args.key.0 per_table c.in-Some.slots
    (sym c.in-Some.is ∙ c.spent_slots.ensures)).1
