use Rattle.recover_plan.specs.laws.ClaimLaws.{AreOthers}
use Rattle.recover_plan.proofs.replaying.is_named_before.Given as goal

abbrev pub invariant-loop-i : goal.invariant-loop-i
invariant-loop-i l = AreOthers l.entry.edits l.k l.i
