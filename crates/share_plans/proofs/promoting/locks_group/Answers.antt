use Rattle.std.proofs.Common.{None, ap, arith, length, refl, subst, sym}
use Rattle.vol_layout.specs.declared.kind.Resource.{Resource}
use Rattle.vol_layout.specs.declared.field.Field.TheVariants.{Count}
use Rattle.vol_layout.specs.Ranges.{HasResource}
use Rattle.image_view.specs.laws.FrameLaws.{HasResource-resource_of}
use Rattle.plan_parts.specs.Fetched.{Takes}
use Rattle.plan_parts.specs.MadeCalls.{TriedSo}
use Rattle.share_plans.specs.declared.promotion.Doing.TheVariants as doings
use Rattle.share_plans.specs.Promotions.{Went}
use Rattle.share_plans.specs.laws.PromoteStages.{group_locked, lock_busy, with_taken}
use Rattle.share_plans.proofs.promoting.locks_group.Goals as goal

pub returns-in-None-clause-went : goal.returns-in-None-clause-went
returns-in-None-clause-went g c =
    group_locked c.args.world.now c.take-came.new.world c.args.core.now c.args.block c.args.slot c.args.part c.take-came.new.self c.requires.stands
    (subst (λ (r : Resource). Takes c.args.core.now.host c.args.world.now c.take-came.new.world r c.args.core.now.taken c.take-came.new.self None)
    c.resource_of-what.ensures.resource
    (subst (Takes c.args.core.now.host c.args.world.now c.take-came.new.world c.resource_of-what.result c.args.core.now.taken
    c.take-came.new.self) c.in-None.is c.in-Ok.ensures.went))
    (subst (λ (r : Resource). TriedSo c.args.core.now.host c.args.world.now c.take-came.new.world r None) c.resource_of-what.ensures.resource
    (subst (TriedSo c.args.core.now.host c.args.world.now c.take-came.new.world c.resource_of-what.result) c.in-None.is c.in-Ok.ensures.so))

pub returns-in-Some-clause-went : goal.returns-in-Some-clause-went
returns-in-Some-clause-went g c =
    let one = ap length c.requires.stands.1 in
    subst (Went c.args.world.now c.take-came.new.world c.args.core.now (with_taken c.args.core.now c.take-came.new.self)
    (doings.LocksGroup c.args.block c.args.slot c.args.part)) (sym c.ends.ensures)
    (lock_busy c.args.world.now c.take-came.new.world c.args.core.now (doings.LocksGroup c.args.block c.args.slot c.args.part)
    c.take-came.new.self c.in-Some.key c.resource_of-what.result refl c.requires.stands.0 (omega (arith, one))
    (subst (HasResource c.args.world.now.locks.geometry) (sym c.resource_of-what.ensures.resource)
    (HasResource-resource_of c.args.world.now.locks.geometry (Count c.args.block) c.requires.stands.2.inside))
    (subst (Takes c.args.core.now.host c.args.world.now c.take-came.new.world c.resource_of-what.result c.args.core.now.taken
    c.take-came.new.self) c.in-Some.is c.in-Ok.ensures.went)
    (subst (TriedSo c.args.core.now.host c.args.world.now c.take-came.new.world c.resource_of-what.result) c.in-Some.is c.in-Ok.ensures.so))
