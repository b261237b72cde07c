use Rattle.std.proofs.Common.{◌≡◌, ◌∙◌, ap, arith, Some, false}
use Rattle.std.proofs.lemmas.List.Elements.{All-pop}
use Rattle.turn_lock.specs.Views.{SeatView}
use Rattle.turn_lock.proofs.Keeps.{may_merge}
use Rattle.turn_lock.proofs.SeatLists.{merging_starts, merging_goes_on, merging_ends}
use Rattle.turn_lock.proofs.seats.merged.Goals as goal

pub loop-next-init : goal.loop-next-init
loop-next-init g c =
    merging_starts _ _ _ c.in-Some.last _ _ c.in-Some.ensures.items c.requires.mine c.requires.free c.into_place-place.ensures.table c.into_place-place.ensures.waits

pub join_seat-requires : goal.join_seat-requires
join_seat-requires g c =
    let m = c.loop-next.invariant in
    let next = c.in-Some-pop.next in
    let locks = All-pop (λ (seat : SeatView g.row.T.Denot). seat.lock ≡ c.args.board.now.table_id) c.loop-next.seats.items c.pop-in-loop-next.new.self.items (Some next) c.in-Some-pop.ensures.items m.mine in
    let calm = All-pop (λ (seat : SeatView g.row.T.Denot). seat.has ≡ false) c.loop-next.seats.items c.pop-in-loop-next.new.self.items (Some next) c.in-Some-pop.ensures.items m.free in
    let other = c.into_place.ensures.waits calm.1 in (
      m.same,
      c.into_place.ensures.table ∙ locks.1,
      ap (λ m. m.1) other,
      (let two = c.requires.two in omega arith),
      may_merge g.T.Begun.began g.T.Counted.listed _ _ _ c.loop-next.place.me.0 _ c.into_place.result.me.0 m.waits (ap (λ m. m.0.turn) other),
    )

pub loop-next-preserved : goal.loop-next-preserved
loop-next-preserved g c =
    merging_goes_on _ _ _ _ c.in-Some-pop.next _ _ _ c.into_place.result.me _ c.loop-next.invariant c.in-Some-pop.ensures.items c.into_place.ensures.waits c.join_seat.ensures.0 c.join_seat.ensures.2

pub returns-clause-all : goal.returns-clause-all
returns-clause-all g c = merging_ends _ _ c.loop-next.seats.items _ _ c.loop-next.invariant (omega (arith, c.in_default-pop.ensures.cases.0, c.loop-next.seats.ok))
