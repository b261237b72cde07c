use Rattle.std.proofs.Common.{◌≡◌, None}
use Rattle.file_plans.specs.Bases.{IsCached}
use Rattle.file_plans.specs.Stands.{At}
use Rattle.host_facts.specs.Others.{Others}
use Rattle.lock_store.specs.Views.{told_of}
use Rattle.plan_tests.proofs.files.advance.Given as goal

-- the plan stands
abbrev pub invariant-loop-step : goal.invariant-loop-step
invariant-loop-step g l = record {
  stands : At l.world l.cache l.plan.core l.plan.stage;
  cached : IsCached l.world l.cache l.initial.plan.core.host;
  untold : told_of l.world.locks ≡ None;
  others : Others l.initial.plan.core.host l.initial.world l.world;
  host : l.plan.core.host ≡ l.initial.plan.core.host;
}
