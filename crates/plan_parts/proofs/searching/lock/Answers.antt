use Rattle.std.proofs.Common.{◌≡◌, ℕ, Option, false, subst, sym}
use Rattle.vol_base.specs.declared.block.Key.{Key}
use Rattle.vol_layout.specs.declared.kind.Resource.TheVariants.{Group}
use Rattle.lock_store.specs.Memories.{holds}
use Rattle.lock_store.specs.Views.{host_at}
use Rattle.disk_locks.specs.Consistent.{Consistent}
use Rattle.plan_parts.specs.Fetched.{LockTaken, Takes}
use Rattle.plan_parts.specs.laws.SearchLaws.{group_locked, group_shown, hunting_room, later_out}
use Rattle.plan_parts.proofs.searching.lock.Goals as goal

pub take-requires-clause-out : goal.take-requires-clause-out
take-requires-clause-out g c =
    subst (λ (r : ℕ). holds (host_at c.args.world.now.locks c.args.host) (Group r) ≡ false)
    (sym (group_shown c.args.world.now.locks c.locks.result.now c.geometry.result.now c.args.host c.args.k c.group_at-group.result
    c.locks.ensures c.geometry.ensures.geometry c.group_at-group.ensures))
    (later_out c.args.world.now c.args.host c.args.taken.now (subst Consistent c.locks.ensures c.geometry.ensures.consistent)
    c.args.k c.args.k c.requires.stands c.requires.stands.below)

pub take-requires-clause-room : goal.take-requires-clause-room
take-requires-clause-room g c =
    hunting_room c.args.world.now c.args.host c.args.taken.now (subst Consistent c.locks.ensures c.geometry.ensures.consistent)
    c.args.k c.args.k c.requires.stands c.requires.stands.below

pub returns-in-Ok-None-clause-went : goal.returns-in-Ok-None-clause-went
returns-in-Ok-None-clause-went g c =
    group_locked c.args.world.now c.take.new.world c.args.host c.args.k c.args.taken.now c.take.new.self c.requires.stands
    (subst (λ (r : ℕ). LockTaken c.args.host c.args.world.now c.take.new.world (Group r) c.args.taken.now c.take.new.self)
    (group_shown c.args.world.now.locks c.locks.result.now c.geometry.result.now c.args.host c.args.k c.group_at-group.result
    c.locks.ensures c.geometry.ensures.geometry c.group_at-group.ensures)
    (subst (λ (o : Option Key). Takes c.args.host c.args.world.now c.take.new.world (Group c.group_at-group.result) c.args.taken.now
    c.take.new.self o) c.in-Ok-None.field-0-is c.in-Ok-None.ensures.went))
