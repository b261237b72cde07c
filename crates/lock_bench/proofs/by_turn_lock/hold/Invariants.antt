use Rattle.std.proofs.Common.{◌≡◌, false}
use Rattle.turn_lock.specs.Views.{IsSeatOf}
use Rattle.lock_bench.proofs.by_turn_lock.hold.Given as goal

abbrev pub invariant-loop : goal.invariant-loop
invariant-loop g l = record { mine : IsSeatOf g.T.Begun.began l.lock l.seat; free : l.seat.has ≡ false }
