use Rattle.std.proofs.Common.{refl, inl}
use Rattle.merge_plan.specs.laws.RangeLaws.{calls_by, decided_by, some_slot}
use Rattle.merge_plan.proofs.deciding.decides.Goals as goal

pub finishes-requires-clause-slot : goal.finishes-requires-clause-slot
finishes-requires-clause-slot g c =
    some_slot c.args.world.now c.args.room.now.logs c.args.room.now.sweep c.decided-action.ensures.geometry c.requires.sweep

pub returns-in-Share : goal.returns-in-Share
returns-in-Share g c =
    let new = c.new.ensures in
    decided_by c.args.world.now c.args.host c.args.shelf c.args.room.now c.args.now _ _ c.get.result c.decided-action.result c.requires.sweep
    c.requires.next c.get.ensures c.entries_of-found.ensures.shelf c.decided-action.ensures.action
    (inl (
      calls_by c.decided-action.result c.in-Share.is,
      refl,
      c.new.result,
      record { host = new.host; entry = new.entry; action_is = new.action; begins = new.acting; few = new.few },
      refl,
    ))
