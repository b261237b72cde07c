use Rattle.share_plans.specs.Lefts.{left}
use Rattle.solo.specs.Shares.{IsOnWay}
use Rattle.solo.proofs.sharing.shares.Given as goal

abbrev pub invariant-loop-answer : goal.invariant-loop-answer
invariant-loop-answer g l = IsOnWay l.fn.world l.world l.fn.file l.fn.index l.fn.source l.plan.core l.plan.stage

abbrev pub decreases-loop-answer : goal.decreases-loop-answer
decreases-loop-answer g l = left l.plan.core l.plan.stage
