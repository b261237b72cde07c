use Rattle.std.proofs.Common.{arith, subst}
use Rattle.disk_locks.specs.Consistent.{Consistent}
use Rattle.file_plans.specs.declared.stage.Change.TheVariants.{Purge}
use Rattle.file_plans.specs.declared.stage.Stage.TheVariants as stages
use Rattle.file_plans.specs.laws.ChangeStageLaws.{change_purged}
use Rattle.file_plans.specs.laws.WriteEndLaws.{cut_at}
use Rattle.file_plans.proofs.changing.purges.Goals as goal
use Rattle.file_plans.specs.laws.TurnStepLaws.{record_sooner}
use Rattle.file_plans.specs.laws.TurnPurgeLaws.{purge_rested}
use Rattle.vol_layout.specs.Edits.{IsEdit}
use Rattle.vol_layout.specs.declared.geometry.Geometry.{Geometry}
use Rattle.std.specs.Prelude.{All}

pub returns-in-Ok-clause-went : goal.returns-in-Ok-clause-went
returns-in-Ok-clause-went g c =
    change_purged c.args.world.now c.commit_purge-came.new.world c.args.cache.now c.args.core.now
    (stages.Changes (Purge c.args.remains) c.args.group) (subst Consistent c.locks.ensures c.geometry-geometry.ensures.consistent)
    (subst Consistent c.locks-2.ensures c.geometry-geometry-2.ensures.consistent) _ c.in-Ok.applying _ _ c.requires.stands.0
    (λ command n noted. noted) c.in-Ok.ensures.went c.stands.ensures.step c.stands.ensures.stage

pub returns-in-Err-clause-cut : goal.returns-in-Err-clause-cut
returns-in-Err-clause-cut g c =
    cut_at c.args.world.now c.commit_purge-came.new.world c.args.core.now (stages.Changes (Purge c.args.remains) c.args.group) c.in-Err.why
    c.in-Err.ensures.cut

pub returns-in-Ok-clause-sooner : goal.returns-in-Ok-clause-sooner
returns-in-Ok-clause-sooner g c =
    let did = c.in-Ok.ensures.went in
    let consistent = subst Consistent c.locks.ensures c.geometry-geometry.ensures.consistent in
    let geometry = c.in-Ok.ensures.others.locks.lasts.geometry in
    record_sooner c.args.world.now c.commit_purge-came.new.world c.args.cache.now c.args.core.now _
    (stages.Changes (Purge c.args.remains) c.args.group) _ _ c.in-Ok.applying _ geometry did.order c.stands.ensures.few c.stands.ensures.stage
    (purge_rested c.args.world.now c.args.cache.now c.args.core.now c.args.remains c.args.group c.in-Ok.applying _ consistent.geometry
    c.requires.stands (subst (λ (x : Geometry). All (IsEdit x) c.in-Ok.applying.entry.edits) geometry did.stands.edits) did.edits
    c.in-Ok.ensures.left) (omega arith)
