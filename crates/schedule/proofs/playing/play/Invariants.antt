use Rattle.std.proofs.Common.{◌-◌}
use Rattle.cluster.specs.Runs.{SameStart}
use Rattle.schedule.specs.Plays.{PlaysUpToWord}
use Rattle.schedule.proofs.playing.play.Given as goal

abbrev pub invariant-loop-at : goal.invariant-loop-at
invariant-loop-at g l = record {
  same : SameStart l.initial.cluster l.cluster;
  plays : PlaysUpToWord l.words 0 l.initial.cluster l.cluster l.at;
}

abbrev pub decreases-loop-at : goal.decreases-loop-at
decreases-loop-at g l = l.cluster.parts.workload.phases - l.cluster.parts.phase
