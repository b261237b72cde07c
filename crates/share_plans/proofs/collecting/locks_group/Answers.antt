use Rattle.std.proofs.Common.{◌≡◌, ℕ, None, Some, false, subst, sym}
use Rattle.vol_layout.specs.declared.kind.Resource.TheVariants.{Group}
use Rattle.lock_store.specs.Memories.{holds}
use Rattle.lock_store.specs.Views.{host_at}
use Rattle.disk_locks.specs.Consistent.{Consistent}
use Rattle.plan_parts.specs.Fetched.{Takes}
use Rattle.plan_parts.specs.MadeCalls.{TriedSo}
use Rattle.share_plans.specs.laws.GatheringStages.{group_busy, group_locked, group_out}
use Rattle.share_plans.proofs.collecting.locks_group.Goals as goal

pub take-came-requires-clause-out : goal.take-came-requires-clause-out
take-came-requires-clause-out g c =
    subst (λ (r : ℕ). holds (host_at c.args.world.now.locks c.args.core.now.host) (Group r) ≡ false) (sym c.first-group.ensures)
    (group_out c.args.world.now c.args.core.now c.requires.stands.0.on c.requires.stands.1 c.requires.stands.3)

pub returns-in-None-clause-went : goal.returns-in-None-clause-went
returns-in-None-clause-went g c =
    group_locked c.args.world.now c.take-came.new.world c.args.core.now c.args.part c.take-came.new.self
    (subst Consistent c.locks.ensures c.geometry-geometry.ensures.consistent) c.requires.stands
    (subst (λ (r : ℕ). Takes c.args.core.now.host c.args.world.now c.take-came.new.world (Group r) c.args.core.now.taken c.take-came.new.self None)
    c.first-group.ensures
    (subst (Takes c.args.core.now.host c.args.world.now c.take-came.new.world (Group c.first-group.result) c.args.core.now.taken
    c.take-came.new.self) c.in-None.is c.in-Ok.ensures.went))
    (subst (λ (r : ℕ). TriedSo c.args.core.now.host c.args.world.now c.take-came.new.world (Group r) None) c.first-group.ensures
    (subst (TriedSo c.args.core.now.host c.args.world.now c.take-came.new.world (Group c.first-group.result)) c.in-None.is c.in-Ok.ensures.so))

pub returns-in-Some-clause-went : goal.returns-in-Some-clause-went
returns-in-Some-clause-went g c =
    group_busy c.args.world.now c.take-came.new.world c.args.core.now c.args.part c.take-came.new.self c.in-Some.key
    (subst Consistent c.locks.ensures c.geometry-geometry.ensures.consistent) c.requires.stands
    (subst (Takes c.args.core.now.host c.args.world.now c.take-came.new.world (Group c.first-group.result) c.args.core.now.taken
    c.take-came.new.self) c.in-Some.is c.in-Ok.ensures.went)
    (subst (λ (r : ℕ). TriedSo c.args.core.now.host c.args.world.now c.take-came.new.world (Group r) (Some c.in-Some.key)) c.first-group.ensures
    (subst (TriedSo c.args.core.now.host c.args.world.now c.take-came.new.world (Group c.first-group.result)) c.in-Some.is c.in-Ok.ensures.so))
