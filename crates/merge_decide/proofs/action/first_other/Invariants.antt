use Rattle.std.proofs.Common.{◌≡◌, drop}
use Rattle.merge_decide.specs.Decision.{first_other}
use Rattle.merge_decide.proofs.action.first_other.Given as goal

abbrev pub invariant-loop-hint : goal.invariant-loop-hint
invariant-loop-hint l = first_other l.entry (drop l.hint-index l.found) ≡ first_other l.entry l.found
