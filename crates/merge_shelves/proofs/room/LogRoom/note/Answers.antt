use Rattle.std.proofs.Common.{◌+◌, ◌*◌, ◌∙◌, ℕ, ap, append-nil, arith, sym, zero-le}
use Rattle.merge_shelves.specs.Rooms.{noted_from}
use Rattle.merge_shelves.specs.declared.room.Noted.{Noted}
use Rattle.merge_shelves.proofs.Noting.{behind, many}
use Rattle.merge_shelves.proofs.room.LogRoom.note.Goals as goal

pub loop-k-init : goal.loop-k-init
unfolding noted_from
loop-k-init c = (c.self.view_is ∙ sym (append-nil c.args.self.now), c.self.invariant.1, zero-le)

pub invariant_of-self : goal.invariant_of-self
invariant_of-self c =
    let long = many c.args.self.now _ c.of-hints.result.entries c.loop-k.k c.loop-k.self-inside.noted.items c.loop-k.invariant.2 c.loop-k.invariant.0 in
    let last = c.loop-k.invariant.2 in
    let room = c.requires.room in
    let log = c.requires.log in
    let few = c.of-hints.ensures.room in
    (omega (arith, long, room, log, few, last), c.loop-k.invariant.1)

pub push_reserved-requires : goal.push_reserved-requires
push_reserved-requires c =
    let long = many c.args.self.now _ c.of-hints.result.entries c.loop-k.k c.loop-k.self-inside.noted.items c.loop-k.invariant.2 c.loop-k.invariant.0 in
    let same = c.loop-k.self-inside.noted.ok.0 in
    let capacity = c.loop-k.invariant.1 in
    let room = c.requires.room in
    let log = c.requires.log in
    let few = c.of-hints.ensures.room in
    let below = c.loop-k-test.true in
    let count = c.count-k-end.ensures.value in
    omega (arith, long, same, capacity, room, log, few, below, count)

pub loop-k-preserved : goal.loop-k-preserved
loop-k-preserved c =
    let below = c.loop-k-test.true in
    let count = c.count-k-end.ensures.value in (
      behind c.args.self.now _ c.of-hints.result.entries c.loop-k.k c.get.result c.loop-k.self-inside.noted.items c.push_reserved.new.self.items _
          c.get.ensures.value c.loop-k.invariant.2 c.loop-k.invariant.0
          (ap (λ (n : ℕ). let one : Noted = record { entry = c.get.result; place = 126 * n + c.loop-k.k } in one) c.from.ensures)
          c.push_reserved.ensures.items,
      (let capacity = c.loop-k.invariant.1 in let same = c.push_reserved.ensures.capacity in omega (arith, capacity, same)),
      omega (arith, below, count),
    )
