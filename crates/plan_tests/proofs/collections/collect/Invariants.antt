use Rattle.std.proofs.Common.{◌≡◌, None}
use Rattle.host_facts.specs.Others.{Others}
use Rattle.lock_store.specs.Views.{told_of}
use Rattle.share_plans.specs.Gatherings.{At}
use Rattle.plan_tests.proofs.collections.collect.Given as goal

-- the next step may be made
abbrev pub invariant-loop-step : goal.invariant-loop-step
invariant-loop-step g l = record {
  host : l.plan.core.host ≡ l.host;
  stands : At l.world l.plan.core l.plan.stage;
  untold : told_of l.world.locks ≡ None;
  geometry : l.world.locks.geometry ≡ l.initial.world.locks.geometry;
  others : Others l.host l.initial.world l.world;
}
