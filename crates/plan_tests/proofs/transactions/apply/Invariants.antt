use Rattle.std.proofs.Common.{◌≡◌, ◌<◌, None}
use Rattle.lock_store.specs.Views.{host_at, told_of}
use Rattle.plan_parts.specs.Applies.{IsApplying}
use Rattle.plan_tests.proofs.transactions.apply.Given as goal

-- the record is on its way, and memory is as before
abbrev pub invariant-loop-step : goal.invariant-loop-step
invariant-loop-step g l = record {
  host : l.host < l.world.locks.geometry.hosts;
  stands : IsApplying l.world l.host l.applying.entry.edits l.applying.left;
  untold : told_of l.world.locks ≡ None;
  memory : host_at l.world.locks l.host ≡ host_at l.initial.world.locks l.host;
  geometry : l.world.locks.geometry ≡ l.initial.world.locks.geometry;
}
