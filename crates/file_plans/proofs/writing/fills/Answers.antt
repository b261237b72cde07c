use Rattle.std.proofs.Common.{ℕ, List, ap, subst}
use Rattle.std.proofs.Common.{refl}
use Rattle.vol_base.specs.declared.plain.PlainCall.TheVariants.{Write}
use Rattle.disk_locks.specs.Consistent.{Consistent}
use Rattle.host_facts.specs.Facts.Fact.{FreshIs}
use Rattle.host_facts.specs.Knows.{Knows}
use Rattle.file_plans.specs.Calls.{block_of}
use Rattle.file_plans.specs.Sights.{MayReply}
use Rattle.file_plans.specs.declared.call.FileCall.{FileCall}
use Rattle.file_plans.specs.laws.SightLaws.{fresh_in_range}
use Rattle.file_plans.specs.declared.stage.Stage.TheVariants as stages
use Rattle.file_plans.specs.laws.WriteEndLaws.{cut_at, record_placed}
use Rattle.file_plans.proofs.writing.fills.Goals as goal
use Rattle.file_plans.specs.laws.TurnStepLaws.{placed_sooner, record_first}
use Rattle.vol_base.specs.declared.plain.PlainReply.TheVariants.{Done}

pub returns-in-Ok-clause-went : goal.returns-in-Ok-clause-went
returns-in-Ok-clause-went g c =
    record_placed c.args.world.now c.commit_fill-came.new.world c.args.cache.now c.args.core.now _ (stages.Fills c.args.fresh)
    (subst Consistent c.locks.ensures c.geometry-geometry.ensures.consistent)
    (subst Consistent c.locks-2.ensures c.geometry-geometry-2.ensures.consistent)
    (Write c.written-file.result.0 c.written-file.result.1 c.written-file.result.2.now) _ c.in-Ok.applying _ _ c.requires.stands.0.comes
    (λ command n noted. noted) c.written-file.ensures
    (subst (λ (k : FileCall). MayReply c.args.world.now.locks.geometry Done k) c.written-file.ensures
    (fresh_in_range c.args.world.now.locks.geometry _ c.args.core.now.call _ c.requires.stands.0.sight))
    (c.in-Ok.ensures.went c.written-file.result.2.now
    (subst (λ (bytes : List ℕ). Knows c.args.world.now c.args.core.now.host (FreshIs c.args.fresh.number bytes))
    (ap (λ call. (block_of call).0) c.written-file.ensures) c.requires.stands.1))
    c.places.ensures.core c.places.ensures.step c.places.ensures.stage

pub returns-in-Err-clause-cut : goal.returns-in-Err-clause-cut
returns-in-Err-clause-cut g c =
    cut_at c.args.world.now c.commit_fill-came.new.world c.args.core.now (stages.Fills c.args.fresh) c.in-Err.why c.in-Err.ensures.cut

pub returns-in-Ok-clause-sooner : goal.returns-in-Ok-clause-sooner
returns-in-Ok-clause-sooner g c =
    placed_sooner c.args.world.now c.commit_fill-came.new.world c.args.cache.now c.args.core.now _ (stages.Fills c.args.fresh) _ _
    c.in-Ok.applying Done
    c.in-Ok.ensures.others.locks.lasts.geometry
    (c.in-Ok.ensures.went c.written-file.result.2.now
    (subst (λ (bytes : List ℕ). Knows c.args.world.now c.args.core.now.host (FreshIs c.args.fresh.number bytes))
    (ap (λ call. (block_of call).0) c.written-file.ensures) c.requires.stands.1)).order
    c.places.ensures.few c.places.ensures.stage c.places.ensures.core
    (record_first c.args.world.now c.args.cache.now c.args.core.now (stages.Fills c.args.fresh) refl)
