use Rattle.std.proofs.Common.{◌+◌, arith, refl}
use Rattle.file_plans.specs.laws.RemainLaws.{ascending_apart}
use Rattle.file_plans.specs.laws.PurgeLoopLaws.{emptying_other, emptying_room}
use Rattle.file_plans.proofs.purging.add_holes.Goals as goal

pub add-requires-clause-room : goal.add-requires-clause-room
add-requires-clause-room c =
    emptying_room c.args.file c.args.remains.now c.loop-k.k (c.loop-k.k + 1) c.args.entry.now c.loop-k.entry c.get.result c.hole.result
    c.loop-k.invariant c.get.ensures c.hole.ensures refl (omega (arith, c.count-k-end.ensures.count, c.count-k-end.ensures.few))

pub add-requires-clause-other : goal.add-requires-clause-other
add-requires-clause-other c =
    emptying_other c.args.file c.args.remains.now c.loop-k.k (c.loop-k.k + 1) c.args.entry.now c.loop-k.entry c.get.result c.hole.result
    c.loop-k.invariant c.get.ensures c.hole.ensures refl (ascending_apart c.args.file c.args.remains.now c.requires.ascending)
