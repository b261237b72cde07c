use Rattle.file_plans.specs.laws.PurgeLoopLaws.{IsCounting}
use Rattle.file_plans.proofs.purging.add_counts.Given as goal

abbrev pub invariant-loop-left : goal.invariant-loop-left
invariant-loop-left l = IsCounting l.table l.remains l._left l.from l.initial.entry l.entry
