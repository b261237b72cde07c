use Rattle.std.proofs.Common.{◌≡◌, None}
use Rattle.lock_store.specs.Views.{told_of}
use Rattle.plan_tests.specs.Caches.{AreCached}
use Rattle.plan_tests.proofs.rows.play.Given as goal

-- each host knows what it keeps
abbrev pub invariant-loop-row : goal.invariant-loop-row
invariant-loop-row g l = record {
  cached : AreCached l.world l.caches.zero l.caches.one l.caches.two;
  untold : told_of l.world.locks ≡ None;
}
