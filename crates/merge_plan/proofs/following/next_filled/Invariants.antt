use Rattle.merge_plan.specs.Followings.{AreNotFilled}
use Rattle.merge_plan.proofs.following.next_filled.Given as goal

abbrev pub invariant-loop-log : goal.invariant-loop-log
invariant-loop-log l = AreNotFilled l.filled l.from l.log
