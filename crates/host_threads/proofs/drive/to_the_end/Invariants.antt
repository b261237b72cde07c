use Rattle.std.proofs.Common.{◌≡◌}
use Rattle.vol_base.specs.Grows.{BeginsWith}
use Rattle.host_threads.proofs.drive.to_the_end.Given as goal

abbrev pub invariant-loop-value : goal.invariant-loop-value
invariant-loop-value g l = record {
  began : g.T.Begun.began l.value ≡ g.T.Begun.began l.fn.value;
  entries : BeginsWith (g.T.Counted.listed l.fn.value) (g.T.Counted.listed l.value);
}

abbrev pub decreases-loop-value : goal.decreases-loop-value
decreases-loop-value g l = g.T.Turns.left l.value
