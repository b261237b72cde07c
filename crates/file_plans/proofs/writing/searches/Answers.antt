use Rattle.std.proofs.Common.{Option, ap, refl, subst}
use Rattle.file_plans.specs.laws.BaseLaws.{coming}
use Rattle.disk_locks.specs.Consistent.{Consistent}
use Rattle.plan_parts.specs.Searches.{Searched}
use Rattle.plan_parts.specs.declared.kept.Kept.{Kept}
use Rattle.file_plans.specs.declared.stage.Stage.TheVariants as stages
use Rattle.file_plans.specs.laws.WriteEndLaws.{busy_at, cut_at, went_as}
use Rattle.file_plans.specs.laws.WriteSearchLaws.{search_found, search_full, search_locked, search_passed}
use Rattle.file_plans.proofs.writing.searches.Goals as goal
use Rattle.file_plans.specs.laws.TurnStepLaws.{ends_sooner, found_sooner, round_sooner}
use Rattle.held_cache.specs.Kept.{kept_at}
use Rattle.plan_parts.specs.declared.outcome.Outcome.TheVariants.{Busy, Full}
use Rattle.std.proofs.Common.{arith, refl}

pub returns-in-Ok-More-clause-went : goal.returns-in-Ok-More-clause-went
returns-in-Ok-More-clause-went g c =
    went_as c.args.world.now c.next-came.new.world c.args.cache.now c.args.core.now _
    (stages.Searches c.args.old c.args.shared c.args.search) _ _ _ _ c.made.ensures refl
    (search_locked c.args.world.now c.next-came.new.world c.args.cache.now c.args.core.now
    (subst Consistent c.locks.ensures c.geometry-geometry.ensures.consistent)
    (subst Consistent c.locks-2.ensures c.geometry-geometry-2.ensures.consistent)
    c.args.old c.args.shared c.args.search
    c.next-came.new.taken c.requires.stands c.in-Ok-More.next
    (subst (Searched c.args.core.now.host c.args.world.now c.next-came.new.world c.args.search c.args.core.now.taken c.next-came.new.taken)
    c.in-Ok-More.field-0-is c.in-Ok-More.ensures.went))

pub returns-in-Ok-Next-clause-went : goal.returns-in-Ok-Next-clause-went
returns-in-Ok-Next-clause-went g c =
    went_as c.args.world.now c.next-came.new.world c.args.cache.now c.args.core.now _
    (stages.Searches c.args.old c.args.shared c.args.search) _ _ _ _ c.made-in-Ok-Next.ensures
    (ap (λ (kept : Option Kept). stages.Searches c.args.old kept c.in-Ok-Next.next) c.kept_shared.ensures)
    (search_passed c.args.world.now c.next-came.new.world c.args.cache.now c.args.core.now
    (subst Consistent c.locks.ensures c.geometry-geometry.ensures.consistent)
    (subst Consistent c.locks-2.ensures c.geometry-geometry-2.ensures.consistent)
    c.args.old c.args.shared c.args.search
    c.next-came.new.taken c.requires.stands c.in-Ok-Next.next c.in-Ok-Next.kept
    (subst (Searched c.args.core.now.host c.args.world.now c.next-came.new.world c.args.search c.args.core.now.taken c.next-came.new.taken)
    c.in-Ok-Next.field-0-is c.in-Ok-Next.ensures.went))

pub returns-in-Ok-Found-clause-went : goal.returns-in-Ok-Found-clause-went
returns-in-Ok-Found-clause-went g c =
    went_as c.args.world.now c.next-came.new.world c.args.cache.now c.args.core.now _
    (stages.Searches c.args.old c.args.shared c.args.search) _ _ _ _ c.made-in-Ok-Found.ensures c.behind_found.ensures
    (search_found c.args.world.now c.next-came.new.world c.args.cache.now c.args.core.now
    (subst Consistent c.locks.ensures c.geometry-geometry.ensures.consistent)
    (subst Consistent c.locks-2.ensures c.geometry-geometry-2.ensures.consistent)
    c.args.old c.args.shared c.args.search
    c.next-came.new.taken c.requires.stands c.in-Ok-Found.number c.in-Ok-Found.group
    (subst (Searched c.args.core.now.host c.args.world.now c.next-came.new.world c.args.search c.args.core.now.taken c.next-came.new.taken)
    c.in-Ok-Found.field-0-is c.in-Ok-Found.ensures.went))

pub returns-in-Ok-Busy-clause-went : goal.returns-in-Ok-Busy-clause-went
returns-in-Ok-Busy-clause-went g c =
    busy_at c.args.world.now c.next-came.new.world c.args.cache.now c.args.core.now (stages.Searches c.args.old c.args.shared c.args.search)
    (subst Consistent c.locks.ensures c.geometry-geometry.ensures.consistent)
    (subst Consistent c.locks-2.ensures c.geometry-geometry-2.ensures.consistent) c.requires.stands.0 (λ command n noted. noted)
    c.next-came.new.taken c.in-Ok-Busy.key
    (subst (Searched c.args.core.now.host c.args.world.now c.next-came.new.world c.args.search c.args.core.now.taken c.next-came.new.taken)
    c.in-Ok-Busy.field-0-is c.in-Ok-Busy.ensures.went)
    _ _ _ c.comes.ensures.core c.comes.ensures.step c.comes.ensures.rest

pub returns-in-Ok-Full-clause-went : goal.returns-in-Ok-Full-clause-went
returns-in-Ok-Full-clause-went g c =
    search_full c.args.world.now c.next-came.new.world c.args.cache.now c.args.core.now
    (subst Consistent c.locks.ensures c.geometry-geometry.ensures.consistent)
    (subst Consistent c.locks-2.ensures c.geometry-geometry-2.ensures.consistent)
    c.args.old c.args.shared c.args.search
    c.next-came.new.taken c.requires.stands
    (subst (Searched c.args.core.now.host c.args.world.now c.next-came.new.world c.args.search c.args.core.now.taken c.next-came.new.taken)
    c.in-Ok-Full.field-0-is c.in-Ok-Full.ensures.went)
    _ _ _ c.comes-in-Ok-Full.ensures.core c.comes-in-Ok-Full.ensures.step c.comes-in-Ok-Full.ensures.rest

pub returns-in-Err-clause-cut : goal.returns-in-Err-clause-cut
returns-in-Err-clause-cut g c =
    cut_at c.args.world.now c.next-came.new.world c.args.core.now (stages.Searches c.args.old c.args.shared c.args.search) c.in-Err.why
    c.in-Err.ensures.cut

pub returns-in-Ok-More-clause-sooner : goal.returns-in-Ok-More-clause-sooner
returns-in-Ok-More-clause-sooner g c =
    let did = (subst (Searched c.args.core.now.host c.args.world.now c.next-came.new.world c.args.search c.args.core.now.taken c.next-came.new.taken)
    c.in-Ok-More.field-0-is c.in-Ok-More.ensures.went) in
    round_sooner c.args.world.now c.next-came.new.world c.args.cache.now c.args.core.now (coming c.args.core.now c.next-came.new.taken
    c.args.core.now.outcome) (stages.Searches c.args.old c.args.shared c.args.search)
    (stages.Searches c.args.old c.args.shared c.in-Ok-More.next) _ (kept_at c.args.cache.now c.args.core.now.host) c.args.core.now.call
    c.in-Ok-More.ensures.others.locks.lasts.geometry refl refl (omega (arith, did.goes.less))

pub returns-in-Ok-Next-clause-sooner : goal.returns-in-Ok-Next-clause-sooner
returns-in-Ok-Next-clause-sooner g c =
    let did = (subst (Searched c.args.core.now.host c.args.world.now c.next-came.new.world c.args.search c.args.core.now.taken c.next-came.new.taken)
    c.in-Ok-Next.field-0-is c.in-Ok-Next.ensures.went) in
    round_sooner c.args.world.now c.next-came.new.world c.args.cache.now c.args.core.now (coming c.args.core.now c.next-came.new.taken
    c.args.core.now.outcome) (stages.Searches c.args.old c.args.shared c.args.search)
    (stages.Searches c.args.old c.kept_shared.result c.in-Ok-Next.next) _ (kept_at c.args.cache.now c.args.core.now.host) c.args.core.now.call
    c.in-Ok-Next.ensures.others.locks.lasts.geometry refl refl (omega (arith, did.goes.less))

pub returns-in-Ok-Found-clause-sooner : goal.returns-in-Ok-Found-clause-sooner
returns-in-Ok-Found-clause-sooner g c =
    found_sooner c.args.world.now c.next-came.new.world c.args.cache.now c.args.core.now _ c.args.old c.args.shared c.args.search
    c.in-Ok-Found.number c.in-Ok-Found.group _ _ c.in-Ok-Found.ensures.others.locks.lasts.geometry refl refl c.behind_found.ensures

pub returns-in-Ok-Busy-clause-sooner : goal.returns-in-Ok-Busy-clause-sooner
returns-in-Ok-Busy-clause-sooner g c =
    let busy = (subst (Searched c.args.core.now.host c.args.world.now c.next-came.new.world c.args.search c.args.core.now.taken c.next-came.new.taken)
    c.in-Ok-Busy.field-0-is c.in-Ok-Busy.ensures.went) in
    ends_sooner c.args.world.now c.next-came.new.world c.args.cache.now c.args.core.now _ (stages.Searches c.args.old c.args.shared c.args.search)
    _ _ c.next-came.new.taken (Busy c.in-Ok-Busy.key) c.in-Ok-Busy.ensures.others.locks.lasts.geometry c.requires.stands refl
    busy.same refl c.comes.ensures.core c.comes.ensures.rest

pub returns-in-Ok-Full-clause-sooner : goal.returns-in-Ok-Full-clause-sooner
returns-in-Ok-Full-clause-sooner g c =
    let full = (subst (Searched c.args.core.now.host c.args.world.now c.next-came.new.world c.args.search c.args.core.now.taken c.next-came.new.taken)
    c.in-Ok-Full.field-0-is c.in-Ok-Full.ensures.went) in
    ends_sooner c.args.world.now c.next-came.new.world c.args.cache.now c.args.core.now _ (stages.Searches c.args.old c.args.shared c.args.search)
    _ _ c.next-came.new.taken Full c.in-Ok-Full.ensures.others.locks.lasts.geometry c.requires.stands refl
    full.same refl c.comes-in-Ok-Full.ensures.core c.comes-in-Ok-Full.ensures.rest
