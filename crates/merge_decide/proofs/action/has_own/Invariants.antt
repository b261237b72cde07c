use Rattle.std.proofs.Common.{◌≡◌, drop}
use Rattle.merge_decide.specs.Decision.{has_own}
use Rattle.merge_decide.proofs.action.has_own.Given as goal

abbrev pub invariant-loop-hint : goal.invariant-loop-hint
invariant-loop-hint l = has_own l.entry (drop l.hint-index l.found) ≡ has_own l.entry l.found
