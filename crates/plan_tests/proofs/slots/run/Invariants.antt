use Rattle.std.proofs.Common.{◌≡◌, None}
use Rattle.host_facts.specs.Others.{Others}
use Rattle.lock_store.specs.Views.{told_of}
use Rattle.recover_plan.specs.Plans.{PlanStands}
use Rattle.plan_tests.proofs.slots.run.Given as goal

-- the next step may be made
abbrev pub invariant-loop-step : goal.invariant-loop-step
invariant-loop-step g l = record {
  host : l.plan.host ≡ l.host;
  stands : PlanStands l.world l.plan.host l.watch l.plan.doing;
  untold : told_of l.world.locks ≡ None;
  geometry : l.world.locks.geometry ≡ l.initial.world.locks.geometry;
  others : Others l.host l.initial.world l.world;
}
