use Rattle.std.proofs.Common.{◌≡◌, false}
use Rattle.turn_lock.specs.Follows.{Follows}
use Rattle.turn_lock.specs.Views.{IsSeatOf}
use Rattle.host_threads.proofs.turns.make_all.Given as goal

abbrev pub invariant-loop-turn : goal.invariant-loop-turn
invariant-loop-turn g l = record {
  mine : IsSeatOf g.T.Begun.began l.lock l.seat;
  free : l.seat.has ≡ false;
  later : Follows g.T.Begun.began g.T.Counted.listed l.initial.seat.seen l.seat.seen;
}
