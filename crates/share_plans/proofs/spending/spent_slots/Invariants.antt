use Rattle.std.proofs.Common.{◌≡◌}
use Rattle.share_plans.specs.Spents.{gathered, slots_record}
use Rattle.share_plans.proofs.spending.spent_slots.Given as goal

abbrev pub invariant-loop-at : goal.invariant-loop-at
invariant-loop-at l = l.slots ≡ slots_record l.key.0 (gathered l.part_no l.part l.group_no l.group l.at)
