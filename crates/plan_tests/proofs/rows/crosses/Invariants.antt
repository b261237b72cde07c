use Rattle.std.proofs.Common.{◌≡◌, None}
use Rattle.lock_store.specs.Views.{told_of}
use Rattle.plan_tests.specs.Caches.{AreCached}
use Rattle.plan_tests.proofs.rows.crosses.Given as goal

-- each host knows what it keeps
abbrev pub invariant-loop-crossing : goal.invariant-loop-crossing
invariant-loop-crossing g l = record {
  cached : AreCached l.world l.caches.zero l.caches.one l.caches.two;
  untold : told_of l.world.locks ≡ None;
}
