use Rattle.std.proofs.Common.{subst}
use Rattle.vol_layout.specs.declared.kind.Resource.TheVariants.{Part}
use Rattle.disk_locks.specs.Consistent.{Consistent}
use Rattle.plan_parts.specs.Fetched.{Takes}
use Rattle.plan_parts.specs.MadeCalls.{TriedSo}
use Rattle.plan_parts.specs.TakenLocks.{IsTaking}
use Rattle.plan_parts.specs.laws.TakenLaws.{none_held}
use Rattle.share_plans.specs.laws.GatheringStages.{part_busy, part_locked}
use Rattle.share_plans.proofs.collecting.locks_part.Goals as goal

pub take-came-requires-clause-out : goal.take-came-requires-clause-out
take-came-requires-clause-out g c =
    none_held c.args.world.now c.args.core.now.host
    (subst (IsTaking c.args.world.now c.args.core.now.host) c.requires.stands.1 c.requires.stands.0.on.taking) (Part c.args.core.now.part)
    c.requires.stands.0.on.part tt

pub returns-in-None-clause-went : goal.returns-in-None-clause-went
returns-in-None-clause-went g c =
    part_locked c.args.world.now c.take-came.new.world c.args.core.now c.take-came.new.self
    (subst Consistent c.locks.ensures c.geometry-geometry.ensures.consistent) c.requires.stands
    (subst (Takes c.args.core.now.host c.args.world.now c.take-came.new.world (Part c.args.core.now.part) c.args.core.now.taken
    c.take-came.new.self) c.in-None.is c.in-Ok.ensures.went)
    (subst (TriedSo c.args.core.now.host c.args.world.now c.take-came.new.world (Part c.args.core.now.part)) c.in-None.is c.in-Ok.ensures.so)

pub returns-in-Some-clause-went : goal.returns-in-Some-clause-went
returns-in-Some-clause-went g c =
    part_busy c.args.world.now c.take-came.new.world c.args.core.now c.take-came.new.self c.in-Some.key
    (subst Consistent c.locks.ensures c.geometry-geometry.ensures.consistent)
    (subst Consistent c.locks-2.ensures c.geometry-geometry-2.ensures.consistent) c.requires.stands
    (subst (Takes c.args.core.now.host c.args.world.now c.take-came.new.world (Part c.args.core.now.part) c.args.core.now.taken
    c.take-came.new.self) c.in-Some.is c.in-Ok.ensures.went)
    (subst (TriedSo c.args.core.now.host c.args.world.now c.take-came.new.world (Part c.args.core.now.part)) c.in-Some.is c.in-Ok.ensures.so)
