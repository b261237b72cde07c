use Rattle.std.proofs.Common.{◌≤◌}
use Rattle.solo.specs.Starts.{IsRecovered}
use Rattle.solo.proofs.starting.recovers.Given as goal

abbrev pub invariant-loop-of : goal.invariant-loop-of
invariant-loop-of g l = record {
  least : 1 ≤ l.of;
  recovered : IsRecovered l.fn.world l.world l.of;
}
