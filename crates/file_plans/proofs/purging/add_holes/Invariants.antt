use Rattle.file_plans.specs.laws.PurgeLoopLaws.{IsEmptying}
use Rattle.file_plans.proofs.purging.add_holes.Given as goal

abbrev pub invariant-loop-k : goal.invariant-loop-k
invariant-loop-k l = IsEmptying l.file l.remains l.k l.initial.entry l.entry
