use Rattle.std.proofs.Common.{◌≡◌}
use Rattle.recover_plan.specs.CallsLeft.{calls_left}
use Rattle.solo.specs.Leaves.{IsLeaving}
use Rattle.solo.proofs.leaving.leaves.Given as goal

abbrev pub invariant-loop-step : goal.invariant-loop-step
invariant-loop-step g l = record {
  host : l.plan.host ≡ 0;
  leaving : IsLeaving l.fn.world l.world l.plan.host l.watch l.plan.doing;
}

abbrev pub decreases-loop-step : goal.decreases-loop-step
decreases-loop-step g l = calls_left l.world l.plan.host l.plan.doing
