use Rattle.turn_lock.proofs.SeatLists.{Merging}
use Rattle.turn_lock.proofs.seats.merged.Given as goal

abbrev pub invariant-loop-next : goal.invariant-loop-next
invariant-loop-next g l = Merging l.board.table_id l.fn.seats.items l.seats.items l.place.table_id l.place.me

abbrev pub decreases-loop-next : goal.decreases-loop-next
decreases-loop-next g l = goal.left-loop-next g l
