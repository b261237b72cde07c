use Rattle.std.proofs.Common.{◌≡◌, None}
use Rattle.lock_store.specs.Views.{told_of}
use Rattle.share_plans.specs.Stands.{At}
use Rattle.plan_tests.proofs.sharing.share.Given as goal

-- the next step may be made
abbrev pub invariant-loop-step : goal.invariant-loop-step
invariant-loop-step g l = record {
  stands : At l.world l.plan.core l.plan.stage;
  untold : told_of l.world.locks ≡ None;
}
