use Rattle.std.proofs.Common.{subst}
use Rattle.vol_layout.specs.declared.field.Field.TheVariants.{Pointer}
use Rattle.disk_locks.specs.Consistent.{Consistent}
use Rattle.merge_looks.specs.laws.LookLaws.{look_merging}
use Rattle.merge_looks.specs.laws.LookSteps.{block_has, block_looked, block_named}
use Rattle.merge_looks.proofs.look.Look.shows.Goals as goal

pub reads_block-came-requires-clause-stands : goal.reads_block-came-requires-clause-stands
reads_block-came-requires-clause-stands g c = look_merging c.args.world.now c.args.self.now c.requires.stands

pub reads_block-came-requires-clause-number : goal.reads_block-came-requires-clause-number
reads_block-came-requires-clause-number g c =
    block_has c.args.world.now (subst Consistent c.locks.ensures c.geometry-geometry.ensures.consistent) c.args.self.now c.args.number
    c.requires.stage c.requires.stands

pub reads_block-came-requires-clause-named : goal.reads_block-came-requires-clause-named
reads_block-came-requires-clause-named g c = (
  Pointer c.args.self.now.file c.args.self.now.index,
  block_named c.args.world.now (subst Consistent c.locks.ensures c.geometry-geometry.ensures.consistent) c.args.self.now c.args.number
      c.requires.stage c.requires.stands,
)

pub returns-in-Ok-clause-went : goal.returns-in-Ok-clause-went
returns-in-Ok-clause-went g c =
    block_looked c.args.world.now (subst Consistent c.locks.ensures c.geometry-geometry.ensures.consistent) c.args.self.now c.args.number
    c.requires.stage c.requires.stands c.reads_block-came.new.world
    (subst Consistent c.locks-2.ensures c.geometry-geometry-2.ensures.consistent) c.in-Ok.block c.in-Ok.ensures.went c.in-Ok.ensures.block
