use Rattle.std.proofs.Common.{◌∙◌, ap, subst, sym}
use Rattle.vol_layout.specs.declared.geometry.Geometry.{Geometry}
use Rattle.lock_store.specs.Views.{LocksView}
use Rattle.disk_locks.specs.Consistent.{Consistent}
use Rattle.share_plans.specs.ReadTables.{ArePacked, kept_in}
use Rattle.share_plans.specs.Spots.{IsSpot}
use Rattle.share_plans.specs.Promotions.{Went}
use Rattle.share_plans.specs.declared.promotion.Doing.TheVariants as doings
use Rattle.share_plans.specs.laws.PromoteStages.{file_read, spot_packed, with_tables}
use Rattle.share_plans.proofs.promoting.reads.Goals as goal

pub shown-requires-clause-packed : goal.shown-requires-clause-packed
shown-requires-clause-packed g c =
    subst (λ (x : Geometry). ArePacked x (kept_in c.push.new.self))
    (sym (c.geometry-geometry-2.ensures.geometry ∙ ap (λ (l : LocksView). l.geometry) c.locks-2.ensures))
    (spot_packed c.args.world.now c.fetch-came.new.world (subst Consistent c.locks-2.ensures c.geometry-geometry-2.ensures.consistent)
    c.args.core.now c.args.which c.requires.stands c.in-Ok.kept c.in-Ok.ensures.went c.in-Ok.ensures.so c.push.new.self c.push.ensures)

pub returns-in-Ok-clause-went : goal.returns-in-Ok-clause-went
returns-in-Ok-clause-went g c =
    subst (Went c.args.world.now c.fetch-came.new.world c.args.core.now (with_tables c.args.core.now c.push.new.self)
    (doings.Reads c.args.which)) (sym c.behind_spot.ensures)
    (file_read c.args.world.now c.fetch-came.new.world (subst Consistent c.locks-2.ensures c.geometry-geometry-2.ensures.consistent)
    c.args.core.now c.args.which c.requires.stands c.in-Ok.kept c.in-Ok.ensures.went c.in-Ok.ensures.so c.push.new.self c.push.ensures c.shown.result
    (subst (λ (x : Geometry). IsSpot x (kept_in c.push.new.self) c.args.core.now.file c.args.core.now.index c.shown.result)
    (c.geometry-geometry-2.ensures.geometry ∙ ap (λ (l : LocksView). l.geometry) c.locks-2.ensures) c.shown.ensures))
