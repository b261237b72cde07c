use Rattle.std.proofs.Common.{◌∙◌, ap, subst, sym}
use Rattle.vol_layout.specs.declared.geometry.Geometry.{Geometry}
use Rattle.lock_store.specs.Views.{LocksView}
use Rattle.disk_locks.specs.Consistent.{Consistent}
use Rattle.share_plans.specs.ReadTables.{ArePacked, kept_in}
use Rattle.share_plans.specs.Spots.{IsSight}
use Rattle.share_plans.specs.Went.{Went}
use Rattle.share_plans.specs.declared.stage.Stage.TheVariants as stages
use Rattle.share_plans.specs.laws.LookStageLaws.{table_packed, table_read, with_tables}
use Rattle.share_plans.proofs.reading.reads.Goals as goal

pub look-requires-clause-packed : goal.look-requires-clause-packed
look-requires-clause-packed g c =
    subst (λ (x : Geometry). ArePacked x (kept_in c.push.new.self))
    (sym (c.geometry-geometry-2.ensures.geometry ∙ ap (λ (l : LocksView). l.geometry) c.locks-2.ensures))
    (table_packed c.args.world.now c.fetch-came.new.world (subst Consistent c.locks-2.ensures c.geometry-geometry-2.ensures.consistent)
    c.args.core.now c.args.which c.requires.stands c.in-Ok.kept c.in-Ok.ensures.went c.in-Ok.ensures.so c.push.new.self c.push.ensures)

pub returns-in-Ok-clause-went : goal.returns-in-Ok-clause-went
returns-in-Ok-clause-went g c =
    subst (Went c.args.world.now c.fetch-came.new.world c.args.core.now (with_tables c.args.core.now c.push.new.self)
    (stages.Reads c.args.which)) (sym c.behind_look.ensures)
    (table_read c.args.world.now c.fetch-came.new.world (subst Consistent c.locks-2.ensures c.geometry-geometry-2.ensures.consistent)
    c.args.core.now c.args.which c.requires.stands c.in-Ok.kept c.in-Ok.ensures.went c.in-Ok.ensures.so c.push.new.self c.push.ensures c.look.result
    (subst (λ (x : Geometry). IsSight x (kept_in c.push.new.self) c.args.core.now.file c.args.core.now.index c.args.core.now.source c.look.result)
    (c.geometry-geometry-2.ensures.geometry ∙ ap (λ (l : LocksView). l.geometry) c.locks-2.ensures) c.look.ensures))
