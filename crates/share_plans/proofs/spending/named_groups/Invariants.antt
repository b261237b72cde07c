use Rattle.std.proofs.Common.{◌≡◌, drop}
use Rattle.std.specs.Prelude.{filter}
use Rattle.std.specs.List.{range_with_len}
use Rattle.vol_layout.specs.Ranges.{per_table}
use Rattle.share_plans.specs.Spents.{names_group}
use Rattle.share_plans.proofs.spending.named_groups.Given as goal

abbrev pub invariant-loop-group : goal.invariant-loop-group
invariant-loop-group l = l.named ≡ filter (λ r. names_group l.part r per_table) (drop l.group (range_with_len 0 l.groups))
