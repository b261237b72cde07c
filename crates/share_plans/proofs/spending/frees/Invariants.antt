use Rattle.std.proofs.Common.{◌≡◌, drop}
use Rattle.share_plans.specs.Spents.{frees}
use Rattle.share_plans.proofs.spending.frees.Given as goal

abbrev pub invariant-loop-k : goal.invariant-loop-k
invariant-loop-k l = l.found ≡ frees l.part (drop l.k l.slots.edits) l.block
