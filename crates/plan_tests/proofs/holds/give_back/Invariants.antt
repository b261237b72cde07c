use Rattle.std.proofs.Common.{◌≡◌, ◌<◌, None}
use Rattle.lock_store.specs.Views.{told_of}
use Rattle.plan_parts.specs.Holds.{IsReleasing}
use Rattle.plan_tests.proofs.holds.give_back.Given as goal

-- the next step may be made
abbrev pub invariant-loop-step : goal.invariant-loop-step
invariant-loop-step g l = record {
  host : l.host < l.world.locks.geometry.hosts;
  stands : IsReleasing l.world l.host l.file l.at;
  untold : told_of l.world.locks ≡ None;
}
