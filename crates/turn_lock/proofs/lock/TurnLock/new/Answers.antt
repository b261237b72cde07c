use Rattle.std.proofs.Common.{rules, ◌≡◌, ap}
use Rattle.turn_lock.proofs.SeatLists.{new_mine}
use Rattle.turn_lock.proofs.lock.TurnLock.new.Goals as goal

pub returns-clause-mine : goal.returns-clause-mine
returns-clause-mine g c =
    let same : c.lock.inside.table.shared.table_id ≡ c.in_ok-lock.lock.id = ap (λ l. l.id) c.lock.view_is in
    let first : c.in_ok-lock.lock.first ≡ c.of-first.result.value = search rules in
    new_mine g.T.Begun.began c.in_ok-lock.lock c.lock.inside.table.shared.table_id c.of-first.result.value c.deal.new.all.items c.deal.ensures.each same first
