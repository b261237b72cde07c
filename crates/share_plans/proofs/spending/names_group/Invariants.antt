use Rattle.std.proofs.Common.{◌≡◌}
use Rattle.share_plans.specs.Spents.{names_group}
use Rattle.share_plans.proofs.spending.names_group.Given as goal

abbrev pub invariant-loop-entry : goal.invariant-loop-entry
invariant-loop-entry l = l.found ≡ names_group l.part l.group l.entry
