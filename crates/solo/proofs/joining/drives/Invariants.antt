use Rattle.std.proofs.Common.{◌≡◌}
use Rattle.recover_plan.specs.Lones.{keys_left, lone_left}
use Rattle.solo.specs.Starts.{IsDriven}
use Rattle.solo.proofs.joining.drives.Given as goal

abbrev pub invariant-loop-end : goal.invariant-loop-end
invariant-loop-end g l = record {
  host : l.plan.host ≡ 0;
  same : l.plan.of ≡ l.fn.plan.of;
  driven : IsDriven (keys_left l.fn.plan.stage) l.fn.world l.world l.plan.of l.plan.stage;
}

abbrev pub decreases-loop-end : goal.decreases-loop-end
decreases-loop-end g l = lone_left l.world.locks.geometry l.plan.stage
