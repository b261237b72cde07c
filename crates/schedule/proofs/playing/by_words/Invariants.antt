use Rattle.std.proofs.Common.{◌≡◌, ◌-◌, length}
use Rattle.cluster.specs.Runs.{SameStart}
use Rattle.schedule.specs.Plays.{PlaysUpToWord}
use Rattle.schedule.proofs.playing.by_words.Given as goal

abbrev pub invariant-loop-at : goal.invariant-loop-at
invariant-loop-at g l = record {
  same : SameStart l.initial.cluster l.cluster;
  phase : l.cluster.parts.phase ≡ l.initial.cluster.parts.phase;
  plays : PlaysUpToWord l.words l.from l.initial.cluster l.cluster l.at;
}

abbrev pub decreases-loop-at : goal.decreases-loop-at
decreases-loop-at g l = length l.words - l.at
