use Rattle.std.proofs.Common.{◌≡◌, ◌<◌, [], None}
use Rattle.lock_store.specs.Views.{told_of}
use Rattle.host_facts.specs.Facts.Fact.{RecordIs}
use Rattle.host_facts.specs.Knows.{Knows}
use Rattle.plan_parts.specs.TakenLocks.{IsTaking}
use Rattle.plan_tests.proofs.transactions.free_all.Given as goal

-- these locks are left
abbrev pub invariant-loop-step : goal.invariant-loop-step
invariant-loop-step g l = record {
  host : l.host < l.world.locks.geometry.hosts;
  empty : Knows l.world l.host (RecordIs []);
  taking : IsTaking l.world l.host l.taken;
  untold : told_of l.world.locks ≡ None;
}
