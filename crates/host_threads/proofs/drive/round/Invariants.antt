use Rattle.std.proofs.Common.{◌≡◌}
use Rattle.vol_base.specs.Grows.{BeginsWith}
use Rattle.host_threads.proofs.Steps.{Rounds}
use Rattle.host_threads.proofs.drive.round.Given as goal

abbrev pub invariant-loop-host : goal.invariant-loop-host
invariant-loop-host g l = record {
  began : g.T.Begun.began l.value ≡ g.T.Begun.began l.initial.value;
  entries : BeginsWith (g.T.Counted.listed l.initial.value) (g.T.Counted.listed l.value);
  lowers : Rounds g.T.Turns.left g.T.Turns.has_command (g.T.Turns.hosts (g.T.Begun.began l.initial.value)) l.initial.value l.value l.host;
}
