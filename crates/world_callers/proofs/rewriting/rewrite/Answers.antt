use Rattle.std.proofs.Common.{refl, subst}
use Rattle.disk_locks.specs.Consistent.{Consistent}
use Rattle.world_callers.proofs.OwnShown.{own_sure, pointer_range, shown_number}
use Rattle.world_callers.proofs.rewriting.rewrite.Goals as goal

pub own_block-requires-clause-pointer : goal.own_block-requires-clause-pointer
own_block-requires-clause-pointer g c =
    (pointer_range c.args.world.now.locks.geometry c.args.file c.args.index c.args.table.now c.requires.pointer c.requires.first
    c.requires.packing).hole

pub write_own-requires-clause-number : goal.write_own-requires-clause-number
write_own-requires-clause-number g c =
    shown_number c.args.world.now.locks.geometry c.args.file c.args.index _ c.args.table.now c.requires.pointer c.requires.first
    c.requires.packing c.in-Some.ensures.some

pub write_own-requires-clause-own : goal.write_own-requires-clause-own
write_own-requires-clause-own g c =
    own_sure c.args.world.now c.args.host c.args.file c.args.index _ c.args.table.now
    (subst Consistent c.locks.ensures c.geometry-geometry.ensures.consistent)
    c.requires.pointer c.requires.first c.requires.packing c.requires.known c.requires.empty c.in-Some.ensures.some

pub returns-in-None-clause-none : goal.returns-in-None-clause-none
returns-in-None-clause-none g c = λ answered. c.in-None.ensures.none refl
