use Rattle.std.proofs.Common.{subst}
use Rattle.std.proofs.Common.{refl}
use Rattle.vol_base.specs.declared.plain.PlainCall.TheVariants.{Punch}
use Rattle.disk_locks.specs.Consistent.{Consistent}
use Rattle.held_cache.specs.Kept.{kept_at}
use Rattle.file_plans.specs.Sights.{IsSight}
use Rattle.file_plans.specs.declared.call.FileCall.{FileCall}
use Rattle.file_plans.specs.declared.sight.Sight.TheVariants.{Drops}
use Rattle.file_plans.specs.declared.stage.Change.TheVariants.{Drop}
use Rattle.file_plans.specs.declared.stage.Stage.TheVariants as stages
use Rattle.file_plans.specs.laws.ChangeSightLaws.{punched}
use Rattle.file_plans.specs.laws.WriteEndLaws.{cut_at, record_placed}
use Rattle.file_plans.proofs.changing.drops.Goals as goal
use Rattle.file_plans.specs.laws.TurnStepLaws.{placed_sooner, record_first}
use Rattle.vol_base.specs.declared.plain.PlainReply.TheVariants.{Done}

pub commit_drop-came-requires-clause-sight : goal.commit_drop-came-requires-clause-sight
commit_drop-came-requires-clause-sight g c =
    subst (λ (k : FileCall).
    IsSight c.args.world.now.locks.geometry (kept_at c.args.cache.now c.args.core.now.host) k (Drops c.args.number))
    (punched _ _ c.args.core.now.call c.args.number _ _ c.requires.stands.1 c.file-file.ensures c.index-index.ensures) c.requires.stands.1

pub returns-in-Ok-clause-went : goal.returns-in-Ok-clause-went
returns-in-Ok-clause-went g c =
    record_placed c.args.world.now c.commit_drop-came.new.world c.args.cache.now c.args.core.now _
    (stages.Changes (Drop c.args.number) c.args.group) (subst Consistent c.locks.ensures c.geometry-geometry.ensures.consistent)
    (subst Consistent c.locks-2.ensures c.geometry-geometry-2.ensures.consistent) (Punch c.file-file.result c.index-index.result) _
    c.in-Ok.applying _ _ c.requires.stands.0 (λ command n noted. noted)
    (punched _ _ c.args.core.now.call c.args.number _ _ c.requires.stands.1 c.file-file.ensures c.index-index.ensures)
    tt c.in-Ok.ensures.went c.places.ensures.core c.places.ensures.step c.places.ensures.stage

pub returns-in-Err-clause-cut : goal.returns-in-Err-clause-cut
returns-in-Err-clause-cut g c =
    cut_at c.args.world.now c.commit_drop-came.new.world c.args.core.now (stages.Changes (Drop c.args.number) c.args.group) c.in-Err.why
    c.in-Err.ensures.cut

pub returns-in-Ok-clause-sooner : goal.returns-in-Ok-clause-sooner
returns-in-Ok-clause-sooner g c =
    placed_sooner c.args.world.now c.commit_drop-came.new.world c.args.cache.now c.args.core.now _ (stages.Changes (Drop c.args.number)
    c.args.group) _ _ c.in-Ok.applying Done
    c.in-Ok.ensures.others.locks.lasts.geometry
    c.in-Ok.ensures.went.order
    c.places.ensures.few c.places.ensures.stage c.places.ensures.core
    (record_first c.args.world.now c.args.cache.now c.args.core.now (stages.Changes (Drop c.args.number) c.args.group) refl)
