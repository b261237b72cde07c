use Rattle.std.proofs.Common.{None, refl, subst, sym}
use Rattle.vol_layout.specs.declared.kind.Resource.{Resource}
use Rattle.vol_layout.specs.declared.field.Field.TheVariants.{Count}
use Rattle.vol_layout.specs.Ranges.{HasResource}
use Rattle.image_view.specs.laws.FrameLaws.{HasResource-resource_of}
use Rattle.plan_parts.specs.Fetched.{Takes}
use Rattle.plan_parts.specs.MadeCalls.{TriedSo}
use Rattle.share_plans.specs.Stands.{known_of}
use Rattle.share_plans.specs.declared.stage.Stage.TheVariants as stages
use Rattle.share_plans.specs.Went.{Went}
use Rattle.share_plans.specs.laws.LockStageLaws.{source_locked, lock_busy, lock_room_locks_source}
use Rattle.share_plans.specs.laws.StillLaws.{pair_has, with_taken}
use Rattle.share_plans.proofs.locking.locks_source.Goals as goal

pub returns-in-None-clause-went : goal.returns-in-None-clause-went
returns-in-None-clause-went g c =
    subst (Went c.args.world.now c.take-came.new.world c.args.core.now (with_taken c.args.core.now c.take-came.new.self)
    (stages.LocksSource c.args.pair)) (sym c.behind_locks.ensures)
    (source_locked c.args.world.now c.take-came.new.world c.args.core.now c.args.pair c.take-came.new.self c.requires.stands
    (subst (λ (r : Resource). Takes c.args.core.now.host c.args.world.now c.take-came.new.world r c.args.core.now.taken c.take-came.new.self None)
    c.resource_of-what.ensures.resource
    (subst (Takes c.args.core.now.host c.args.world.now c.take-came.new.world c.resource_of-what.result c.args.core.now.taken
    c.take-came.new.self) c.in-None.is c.in-Ok.ensures.went))
    (subst (λ (r : Resource). TriedSo c.args.core.now.host c.args.world.now c.take-came.new.world r None) c.resource_of-what.ensures.resource
    (subst (TriedSo c.args.core.now.host c.args.world.now c.take-came.new.world c.resource_of-what.result) c.in-None.is c.in-Ok.ensures.so)))

pub returns-in-Some-clause-went : goal.returns-in-Some-clause-went
returns-in-Some-clause-went g c =
    subst (Went c.args.world.now c.take-came.new.world c.args.core.now (with_taken c.args.core.now c.take-came.new.self)
    (stages.LocksSource c.args.pair)) (sym c.ends.ensures)
    (lock_busy c.args.world.now c.take-came.new.world c.args.core.now (stages.LocksSource c.args.pair) c.take-came.new.self c.in-Some.key
    c.resource_of-what.result refl c.requires.stands.0 (lock_room_locks_source c.args.world.now c.args.core.now c.args.pair c.requires.stands)
    (subst (HasResource c.args.world.now.locks.geometry) (sym c.resource_of-what.ensures.resource)
    (HasResource-resource_of c.args.world.now.locks.geometry (Count c.args.pair.source)
    (pair_has c.args.world.now.locks.geometry (known_of c.args.core.now) c.args.core.now.file c.args.core.now.index c.args.core.now.source
    c.args.pair c.requires.stands.2).1))
    (subst (Takes c.args.core.now.host c.args.world.now c.take-came.new.world c.resource_of-what.result c.args.core.now.taken
    c.take-came.new.self) c.in-Some.is c.in-Ok.ensures.went)
    (subst (TriedSo c.args.core.now.host c.args.world.now c.take-came.new.world c.resource_of-what.result) c.in-Some.is c.in-Ok.ensures.so))
