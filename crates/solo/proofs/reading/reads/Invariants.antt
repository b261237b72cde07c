use Rattle.std.proofs.Common.{◌≤◌, ◌+◌}
use Rattle.held_cache.specs.Kept.{kept_at}
use Rattle.solo.specs.Reads.{IsLooking, reads_left}
use Rattle.solo.proofs.reading.reads.Given as goal

abbrev pub invariant-loop-found : goal.invariant-loop-found
invariant-loop-found g l = record {
  looking : IsLooking l.initial.world l.world l.cache;
  few : l.world.locks.disk.calls + reads_left l.initial.world.locks.geometry (kept_at l.cache 0) l.file l.index
      ≤ l.initial.world.locks.disk.calls + 3;
}

abbrev pub decreases-loop-found : goal.decreases-loop-found
decreases-loop-found g l = reads_left l.initial.world.locks.geometry (kept_at l.cache 0) l.file l.index
