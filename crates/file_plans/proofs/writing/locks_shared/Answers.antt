use Rattle.std.proofs.Common.{None, Some, refl, subst}
use Rattle.file_plans.specs.laws.BaseLaws.{coming}
use Rattle.vol_layout.specs.declared.kind.Resource.{Resource}
use Rattle.disk_locks.specs.Consistent.{Consistent}
use Rattle.plan_parts.specs.Fetched.{Takes}
use Rattle.file_plans.specs.declared.stage.Stage.TheVariants as stages
use Rattle.file_plans.specs.laws.WriteEndLaws.{busy_at, cut_at, went_as}
use Rattle.file_plans.specs.laws.WriteStageLaws.{shared_locked}
use Rattle.file_plans.proofs.writing.locks_shared.Goals as goal
use Rattle.file_plans.specs.laws.TurnStepLaws.{ends_sooner, round_sooner}
use Rattle.held_cache.specs.Kept.{kept_at}
use Rattle.plan_parts.specs.declared.outcome.Outcome.TheVariants.{Busy}
use Rattle.std.proofs.Common.{arith, refl}

pub returns-in-None-clause-went : goal.returns-in-None-clause-went
returns-in-None-clause-went g c =
    went_as c.args.world.now c.take-came.new.world c.args.cache.now c.args.core.now _
    (stages.LocksShared c.args.old c.args.number c.args.group) _ _ _ _ c.made.ensures refl
    (shared_locked c.args.world.now c.take-came.new.world c.args.cache.now c.args.core.now
    (subst Consistent c.locks.ensures c.geometry.ensures.consistent)
    (subst Consistent c.locks-2.ensures c.geometry-geometry.ensures.consistent)
    c.args.old c.args.number c.args.group c.take-came.new.self c.requires.stands
    (subst (λ (r : Resource). Takes c.args.core.now.host c.args.world.now c.take-came.new.world r c.args.core.now.taken c.take-came.new.self
    None) c.resource_of-what.ensures.resource
    (subst (Takes c.args.core.now.host c.args.world.now c.take-came.new.world c.resource_of-what.result c.args.core.now.taken
    c.take-came.new.self) c.in-None.is c.in-Ok.ensures.went)))

pub returns-in-Some-clause-went : goal.returns-in-Some-clause-went
returns-in-Some-clause-went g c =
    busy_at c.args.world.now c.take-came.new.world c.args.cache.now c.args.core.now
    (stages.LocksShared c.args.old c.args.number c.args.group)
    (subst Consistent c.locks.ensures c.geometry.ensures.consistent)
    (subst Consistent c.locks-2.ensures c.geometry-geometry.ensures.consistent) c.requires.stands.0 (λ command n noted. noted)
    c.take-came.new.self c.in-Some.key
    (subst (λ (r : Resource). Takes c.args.core.now.host c.args.world.now c.take-came.new.world r c.args.core.now.taken c.take-came.new.self
    (Some c.in-Some.key)) c.resource_of-what.ensures.resource
    (subst (Takes c.args.core.now.host c.args.world.now c.take-came.new.world c.resource_of-what.result c.args.core.now.taken
    c.take-came.new.self) c.in-Some.is c.in-Ok.ensures.went))
    _ _ _ c.comes.ensures.core c.comes.ensures.step c.comes.ensures.rest

pub returns-in-Err-clause-cut : goal.returns-in-Err-clause-cut
returns-in-Err-clause-cut g c =
    cut_at c.args.world.now c.take-came.new.world c.args.core.now (stages.LocksShared c.args.old c.args.number c.args.group)
    c.in-Err.why c.in-Err.ensures.cut

pub returns-in-None-clause-sooner : goal.returns-in-None-clause-sooner
returns-in-None-clause-sooner g c =
    round_sooner c.args.world.now c.take-came.new.world c.args.cache.now c.args.core.now (coming c.args.core.now c.take-came.new.self
    c.args.core.now.outcome) (stages.LocksShared c.args.old c.args.number c.args.group)
    (stages.FetchesShared c.args.old c.args.number c.args.group) _ (kept_at c.args.cache.now c.args.core.now.host) c.args.core.now.call
    c.in-Ok.ensures.others.locks.lasts.geometry refl refl (omega arith)

pub returns-in-Some-clause-sooner : goal.returns-in-Some-clause-sooner
returns-in-Some-clause-sooner g c =
    let busy = subst (Takes c.args.core.now.host c.args.world.now c.take-came.new.world c.resource_of-what.result c.args.core.now.taken
    c.take-came.new.self) c.in-Some.is c.in-Ok.ensures.went in
    ends_sooner c.args.world.now c.take-came.new.world c.args.cache.now c.args.core.now _ (stages.LocksShared c.args.old c.args.number c.args.group)
    _ _ c.take-came.new.self (Busy c.in-Some.key) c.in-Ok.ensures.others.locks.lasts.geometry c.requires.stands refl
    busy.same refl c.comes.ensures.core c.comes.ensures.rest
