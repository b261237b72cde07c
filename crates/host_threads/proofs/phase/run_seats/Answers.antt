use Rattle.std.proofs.Common.{get_or, subst, rules}
use Rattle.turn_lock.specs.Follows.{Follows}
use Rattle.turn_lock.specs.Views.{SeatView}
use Rattle.host_threads.proofs.phase.run_seats.Goals as goal

pub returns-clause-later : goal.returns-clause-later
returns-clause-later g c k seat within =
    let ran = (c.for_each_mut.ensures k seat within).1 in
    let F : SeatView g.row.T.Denot → SeatView g.row.T.Denot → Type 0 = λ a b. Follows g.T.Begun.began g.T.Counted.listed a.seen b.seen in
    let after : F ran.argument.now ran.after_call.now = search rules in
    subst (λ a. F a (get_or c.for_each_mut.new.s k seat)) ran.argument_is (subst (F ran.argument.now) ran.left after)
