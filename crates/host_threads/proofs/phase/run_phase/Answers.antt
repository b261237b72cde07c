use Rattle.std.proofs.Common.{◌≡◌, ◌<◌, get_or, length, subst, rules}
use Rattle.std.proofs.lemmas.Option.{slice_get-get_or}
use Rattle.vol_base.specs.Grows.{BeginsWith}
use Rattle.turn_lock.specs.Views.{SeatView, new_seat}
use Rattle.host_threads.proofs.Growing.{begins_on}
use Rattle.host_threads.proofs.phase.run_phase.Goals as goal

pub returns-in-Ok-clause-entries : goal.returns-in-Ok-clause-entries
returns-in-Ok-clause-entries g c =
    let seats = c.in-Ok.seats.items in
    let one = new_seat c.in-Ok.lock.id c.args.value 0 in
    let some : 0 < length seats = search rules in
    let first : get_or seats 0 one ≡ one = c.in-Ok.ensures.new.each 0 (get_or seats 0 one) (slice_get-get_or seats 0 one some) in
    let S : SeatView g.row.T.Denot → Type 0 = λ s. BeginsWith (g.T.Counted.listed s.seen) (g.T.Counted.listed c.by_threads.result) in
    begins_on _ _ _ (subst S first (c.by_threads.ensures.entries 0 one some)) c.to_the_end.ensures.entries
