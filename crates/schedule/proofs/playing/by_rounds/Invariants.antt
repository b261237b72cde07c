use Rattle.cluster.specs.Runs.{SameStart}
use Rattle.schedule.specs.Plays.{PlaysRoundsTo}
use Rattle.schedule.proofs.playing.by_rounds.Given as goal

abbrev pub invariant-loop-cluster : goal.invariant-loop-cluster
invariant-loop-cluster g l = record {
  same : SameStart l.initial.cluster l.cluster;
  plays : PlaysRoundsTo l.initial.cluster l.cluster;
}

abbrev pub decreases-loop-cluster : goal.decreases-loop-cluster
decreases-loop-cluster g l = l.cluster.budget.left
