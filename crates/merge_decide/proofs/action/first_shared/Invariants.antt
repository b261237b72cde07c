use Rattle.std.proofs.Common.{◌≡◌, drop}
use Rattle.merge_decide.specs.Decision.{first_shared}
use Rattle.merge_decide.proofs.action.first_shared.Given as goal

abbrev pub invariant-loop-hint : goal.invariant-loop-hint
invariant-loop-hint l = first_shared (drop l.hint-index l.found) ≡ first_shared l.found
