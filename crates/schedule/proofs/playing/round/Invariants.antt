use Rattle.cluster.specs.Runs.{SameStart}
use Rattle.schedule.specs.Plays.{PlaysUpTo}
use Rattle.schedule.proofs.playing.round.Given as goal

abbrev pub invariant-loop-host : goal.invariant-loop-host
invariant-loop-host g l = record {
  same : SameStart l.initial.cluster l.cluster;
  plays : PlaysUpTo l.hosts l.initial.cluster l.cluster l.host;
}
