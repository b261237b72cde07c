use Rattle.std.proofs.Common.{◌≡◌, ◌+◌, ◌∷◌, [], All, List, arith, length, subst, sym}
use Rattle.std.proofs.lemmas.List.{length-append}
use Rattle.std.proofs.lemmas.List.Elements.{All-push}
use Rattle.cluster.specs.Views.{IsFirstSeat}
use Rattle.cluster.specs.declared.seat.Seat.{Seat}
use Rattle.cluster.proofs.starting.first_seats.Goals as goal

pub loop-preserved : goal.loop-preserved
loop-preserved c =
    let long = c.loop.invariant.1 in
    let more = length-append c.loop.seats.items (c.in_ok-new.field-0 ∷ []) in (
      subst (λ (seats : List Seat). All (IsFirstSeat c.args.geometry.now) seats) (sym c.push_reserved.ensures.items)
          (All-push (IsFirstSeat c.args.geometry.now) c.loop.seats.items c.in_ok-new.field-0 c.loop.invariant.0 c.in_ok-new.ensures),
      subst (λ (seats : List Seat). length seats ≡ c.loop.counter + 1) (sym c.push_reserved.ensures.items) (omega (arith, long, more)),
      let room = c.loop.invariant.2 in let same = c.push_reserved.ensures.capacity in omega (arith, room, same),
    )
