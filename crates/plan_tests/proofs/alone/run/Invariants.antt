use Rattle.std.proofs.Common.{◌≡◌, None}
use Rattle.lock_store.specs.Views.{told_of}
use Rattle.recover_plan.specs.Lones.{LoneAt}
use Rattle.plan_tests.proofs.alone.run.Given as goal

-- the next step may be made
abbrev pub invariant-loop-step : goal.invariant-loop-step
invariant-loop-step g l = record {
  at : LoneAt l.world l.plan.host l.plan.of l.plan.stage;
  untold : told_of l.world.locks ≡ None;
}
