use Rattle.std.proofs.Common.{◌∙◌, ap, subst, sym}
use Rattle.vol_layout.specs.declared.geometry.Geometry.{Geometry}
use Rattle.lock_store.specs.Views.{LocksView}
use Rattle.disk_locks.specs.Consistent.{Consistent}
use Rattle.share_plans.specs.ReadTables.{ArePacked, kept_in}
use Rattle.share_plans.specs.Spots.{IsSpot}
use Rattle.merge_looks.specs.laws.LookLaws.{look_merging}
use Rattle.merge_looks.specs.laws.LookSteps.{now_packed, table_looked, table_may}
use Rattle.merge_looks.proofs.look.Look.reads.Goals as goal

pub reads_table-came-requires-clause-stands : goal.reads_table-came-requires-clause-stands
reads_table-came-requires-clause-stands g c = look_merging c.args.world.now c.args.self.now c.requires.stands

pub reads_table-came-requires-clause-table : goal.reads_table-came-requires-clause-table
reads_table-came-requires-clause-table g c = (table_may c.args.world.now c.args.self.now c.args.which c.requires.stage c.requires.stands).0

pub reads_table-came-requires-clause-may : goal.reads_table-came-requires-clause-may
reads_table-came-requires-clause-may g c = (table_may c.args.world.now c.args.self.now c.args.which c.requires.stage c.requires.stands).1

pub push-requires : goal.push-requires
push-requires g c = (table_may c.args.world.now c.args.self.now c.args.which c.requires.stage c.requires.stands).2

pub shown-spot-requires-clause-packed : goal.shown-spot-requires-clause-packed
shown-spot-requires-clause-packed g c =
    subst (λ (x : Geometry). ArePacked x (kept_in c.push.new.self))
    (sym (c.geometry-geometry.ensures.geometry ∙ ap (λ (l : LocksView). l.geometry) c.locks.ensures))
    (now_packed c.args.world.now c.reads_table-came.new.world (subst Consistent c.locks.ensures c.geometry-geometry.ensures.consistent)
    c.args.self.now c.args.which c.requires.stage c.requires.stands c.in-Ok.table
    c.in-Ok.ensures.went c.in-Ok.ensures.known c.in-Ok.ensures.packing c.push.new.self c.push.ensures)

pub returns-in-Ok-clause-went : goal.returns-in-Ok-clause-went
returns-in-Ok-clause-went g c =
    table_looked c.args.world.now c.reads_table-came.new.world (subst Consistent c.locks.ensures c.geometry-geometry.ensures.consistent)
    c.args.self.now c.args.which c.requires.stage c.requires.stands c.in-Ok.table c.in-Ok.ensures.went c.in-Ok.ensures.known
    c.in-Ok.ensures.packing c.push.new.self c.push.ensures c.shown-spot.result c.comes.new.self c.comes.result
    (subst (λ (x : Geometry). IsSpot x (kept_in c.push.new.self) c.args.self.now.file c.args.self.now.index c.shown-spot.result)
    (c.geometry-geometry.ensures.geometry ∙ ap (λ (l : LocksView). l.geometry) c.locks.ensures) c.shown-spot.ensures) c.comes.ensures.stage
    c.comes.ensures.came
