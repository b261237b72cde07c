use Rattle.std.proofs.Common.{refl, subst}
use Rattle.file_plans.specs.declared.old.Old.TheVariants.{Other}
use Rattle.vol_layout.specs.declared.kind.Table.{Table}
use Rattle.disk_locks.specs.Consistent.{Consistent}
use Rattle.plan_parts.specs.Fetched.{Fetched}
use Rattle.file_plans.specs.declared.stage.Stage.TheVariants as stages
use Rattle.file_plans.specs.laws.WriteEndLaws.{cut_at, went_as}
use Rattle.file_plans.specs.laws.WriteStageLaws.{shared_fetched}
use Rattle.file_plans.proofs.writing.fetches_shared.Goals as goal
use Rattle.file_plans.specs.laws.TurnStepLaws.{round_sooner}
use Rattle.held_cache.specs.Kept.{kept_at}
use Rattle.std.proofs.Common.{arith, refl}

pub returns-in-Ok-clause-went : goal.returns-in-Ok-clause-went
returns-in-Ok-clause-went g c =
    went_as c.args.world.now c.fetch-came.new.world c.args.cache.now c.args.core.now _
    (stages.FetchesShared c.args.old c.args.number c.args.group) _ _ _ _ c.made.ensures refl
    (shared_fetched c.args.world.now c.fetch-came.new.world c.args.cache.now c.args.core.now
    (subst Consistent c.locks.ensures c.geometry.ensures.consistent)
    (subst Consistent c.locks-2.ensures c.geometry-geometry.ensures.consistent)
    c.args.old c.args.number c.args.group c.in-Ok.kept c.requires.stands
    (subst (λ (t : Table). Fetched c.args.core.now.host c.args.world.now c.fetch-came.new.world t c.in-Ok.kept)
    c.table_of-which.ensures.table c.in-Ok.ensures.went))

pub returns-in-Err-clause-cut : goal.returns-in-Err-clause-cut
returns-in-Err-clause-cut g c =
    cut_at c.args.world.now c.fetch-came.new.world c.args.core.now (stages.FetchesShared c.args.old c.args.number c.args.group)
    c.in-Err.why c.in-Err.ensures.cut

pub returns-in-Ok-clause-sooner : goal.returns-in-Ok-clause-sooner
returns-in-Ok-clause-sooner g c =
    round_sooner c.args.world.now c.fetch-came.new.world c.args.cache.now c.args.core.now c.args.core.now (stages.FetchesShared c.args.old
    c.args.number c.args.group)
    (stages.Puts (record { number = c.args.number; group = c.args.group; left = Other c.args.old c.in-Ok.kept })) _ (kept_at c.args.cache.now
    c.args.core.now.host) c.args.core.now.call
    c.in-Ok.ensures.others.locks.lasts.geometry refl refl (omega arith)
