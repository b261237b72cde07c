use Rattle.std.proofs.Common.{◌≡◌, subst}
use Rattle.std.specs.Prelude.{IfSome}
use Rattle.disk_locks.specs.Consistent.{Consistent}
use Rattle.file_plans.specs.Sights.{MayReply}
use Rattle.file_plans.specs.declared.call.FileCall.{FileCall}
use Rattle.file_plans.specs.declared.call.FileCall.TheVariants.{Plain}
use Rattle.file_plans.specs.laws.SightLaws.{heads_in_range}
use Rattle.file_plans.specs.declared.stage.Stage.TheVariants as stages
use Rattle.file_plans.specs.laws.WriteEndLaws.{cut_at, record_placed}
use Rattle.file_plans.proofs.changing.heads.Goals as goal
use Rattle.file_plans.specs.laws.TurnStepLaws.{placed_sooner}
use Rattle.file_plans.specs.laws.TurnActLaws.{heads_start}
use Rattle.vol_base.specs.declared.plain.PlainReply.TheVariants.{Done}

pub returns-in-Ok-clause-went : goal.returns-in-Ok-clause-went
returns-in-Ok-clause-went g c =
    record_placed c.args.world.now c.commit_head-came.new.world c.args.cache.now c.args.core.now _ stages.Sees
    (subst Consistent c.locks.ensures c.geometry-geometry.ensures.consistent)
    (subst Consistent c.locks-2.ensures c.geometry-geometry-2.ensures.consistent) c.unwrap-call.result.now _
    c.in-Ok.applying _ _ c.requires.stands.0 (λ command n noted. noted)
    (subst (λ o. IfSome o (λ call. c.args.core.now.call ≡ Plain call.now)) c.unwrap-call.ensures c.plain.ensures.some)
    (subst (λ (k : FileCall). MayReply c.args.world.now.locks.geometry Done k)
    (subst (λ o. IfSome o (λ call. c.args.core.now.call ≡ Plain call.now)) c.unwrap-call.ensures c.plain.ensures.some)
    (heads_in_range c.args.world.now.locks.geometry _ c.args.core.now.call c.args.number c.requires.sight))
    c.in-Ok.ensures.went c.places.ensures.core c.places.ensures.step c.places.ensures.stage

pub returns-in-Err-clause-cut : goal.returns-in-Err-clause-cut
returns-in-Err-clause-cut g c =
    cut_at c.args.world.now c.commit_head-came.new.world c.args.core.now stages.Sees c.in-Err.why c.in-Err.ensures.cut

pub returns-in-Ok-clause-sooner : goal.returns-in-Ok-clause-sooner
returns-in-Ok-clause-sooner g c =
    placed_sooner c.args.world.now c.commit_head-came.new.world c.args.cache.now c.args.core.now _ stages.Sees _ _ c.in-Ok.applying Done
    c.in-Ok.ensures.others.locks.lasts.geometry
    c.in-Ok.ensures.went.order
    c.places.ensures.few c.places.ensures.stage c.places.ensures.core
    (heads_start c.args.world.now c.args.cache.now c.args.core.now c.args.number c.requires.sight)
