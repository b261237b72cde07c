use Rattle.solo.specs.Alone.{IsLater}
use Rattle.solo.specs.Starts.{IsTaking}
use Rattle.solo.proofs.starting.takes_all.Given as goal

abbrev pub invariant-loop-file : goal.invariant-loop-file
invariant-loop-file g l = record {
  later : IsLater 0 l.fn.world l.world;
  taking : IsTaking l.world l.file;
}
