use Rattle.std.proofs.Common.{◌≡◌, ◌<◌, ◌∙◌, ℕ, None, ap, arith, length, refl, subst, sym}
use Rattle.vol_layout.specs.declared.geometry.Geometry.{Geometry}
use Rattle.vol_layout.specs.declared.kind.Resource.TheVariants.{Part}
use Rattle.lock_store.specs.Views.{LocksView}
use Rattle.plan_parts.specs.Fetched.{Takes}
use Rattle.plan_parts.specs.MadeCalls.{TriedSo}
use Rattle.plan_parts.specs.TakenLocks.{IsTaking}
use Rattle.plan_parts.specs.laws.TakenLaws.{none_held}
use Rattle.share_plans.specs.declared.promotion.Doing.TheVariants as doings
use Rattle.share_plans.specs.Promotions.{Went, own_part}
use Rattle.share_plans.specs.laws.PromoteStages.{lock_busy, part_locked, with_taken}
use Rattle.share_plans.proofs.promoting.locks_part.Goals as goal

pub take-came-requires-clause-out : goal.take-came-requires-clause-out
take-came-requires-clause-out g c =
    none_held c.args.world.now c.args.core.now.host
    (subst (IsTaking c.args.world.now c.args.core.now.host) c.requires.stands.1 c.requires.stands.0.taking) (Part c.own_part-part.result)
    (subst (λ (x : Geometry). c.own_part-part.result < x.parts)
    (c.geometry.ensures.geometry ∙ ap (λ (l : LocksView). l.geometry) c.locks.ensures) c.own_part-part.ensures.below) tt

pub returns-in-None-clause-went : goal.returns-in-None-clause-went
returns-in-None-clause-went g c =
    let part_is : c.own_part-part.result ≡ own_part c.args.world.now.locks.geometry c.args.core.now.host =
    c.own_part-part.ensures.part
    ∙ ap (λ (x : Geometry). own_part x c.args.core.now.host)
    (c.geometry.ensures.geometry ∙ ap (λ (l : LocksView). l.geometry) c.locks.ensures) in
    part_locked c.args.world.now c.take-came.new.world c.args.core.now c.args.block c.take-came.new.self c.requires.stands
    (subst (λ (p : ℕ). p < c.args.world.now.locks.geometry.parts) part_is
    (subst (λ (x : Geometry). c.own_part-part.result < x.parts)
    (c.geometry.ensures.geometry ∙ ap (λ (l : LocksView). l.geometry) c.locks.ensures) c.own_part-part.ensures.below))
    (subst (λ (p : ℕ). Takes c.args.core.now.host c.args.world.now c.take-came.new.world (Part p) c.args.core.now.taken c.take-came.new.self None)
    part_is
    (subst (Takes c.args.core.now.host c.args.world.now c.take-came.new.world (Part c.own_part-part.result) c.args.core.now.taken
    c.take-came.new.self) c.in-None.is c.in-Ok.ensures.went))
    (subst (λ (p : ℕ). TriedSo c.args.core.now.host c.args.world.now c.take-came.new.world (Part p) None) part_is
    (subst (TriedSo c.args.core.now.host c.args.world.now c.take-came.new.world (Part c.own_part-part.result)) c.in-None.is c.in-Ok.ensures.so))

pub returns-in-Some-clause-went : goal.returns-in-Some-clause-went
returns-in-Some-clause-went g c =
    let none = ap length c.requires.stands.1 in
    subst (Went c.args.world.now c.take-came.new.world c.args.core.now (with_taken c.args.core.now c.take-came.new.self)
    (doings.LocksPart c.args.block)) (sym c.ends.ensures)
    (lock_busy c.args.world.now c.take-came.new.world c.args.core.now (doings.LocksPart c.args.block) c.take-came.new.self c.in-Some.key
    (Part c.own_part-part.result) refl c.requires.stands.0 (omega (arith, none))
    (subst (λ (x : Geometry). c.own_part-part.result < x.parts)
    (c.geometry.ensures.geometry ∙ ap (λ (l : LocksView). l.geometry) c.locks.ensures) c.own_part-part.ensures.below)
    (subst (Takes c.args.core.now.host c.args.world.now c.take-came.new.world (Part c.own_part-part.result) c.args.core.now.taken
    c.take-came.new.self) c.in-Some.is c.in-Ok.ensures.went)
    (subst (TriedSo c.args.core.now.host c.args.world.now c.take-came.new.world (Part c.own_part-part.result)) c.in-Some.is c.in-Ok.ensures.so))
