use Rattle.std.proofs.Common.{◌≡◌, ◌*◌, ◌++◌}
use Rattle.vol_layout.specs.Ranges.{per_table}
use Rattle.call_effects.specs.Collections.{freed}
use Rattle.share_plans.specs.Spents.{frees, picked}
use Rattle.share_plans.proofs.spending.add_counts.Given as goal

abbrev pub invariant-loop-at : goal.invariant-loop-at
invariant-loop-at l =
    l.entry ≡ record l.slots { edits = l.slots.edits ++ freed (picked (frees l.part l.slots.edits) (per_table * l.group_no) l.at) }
