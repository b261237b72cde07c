use Rattle.std.proofs.Common.{◌≡◌, ◌∙◌, ℕ, ap, refl, subst, sym}
use Rattle.std.specs.Prelude.{IfSome}
use Rattle.vol_base.specs.declared.block.Key.{Key}
use Rattle.lock_store.specs.Views.{LocksView, key_at}
use Rattle.disk_locks.specs.Consistent.{Consistent}
use Rattle.plan_parts.specs.Applies as apply
use Rattle.plan_parts.specs.MadeCalls.{AppliedSo}
use Rattle.share_plans.specs.GatheringSteps.{Went}
use Rattle.share_plans.specs.Gatherings.{behind_group}
use Rattle.share_plans.specs.Spents.{current, emptying_of}
use Rattle.share_plans.specs.declared.collection.Gathered.TheVariants.{More}
use Rattle.share_plans.specs.declared.collection.Gathering.{Gathering}
use Rattle.share_plans.specs.declared.collection.Gathering.TheVariants.{Applies}
use Rattle.share_plans.specs.laws.GatheringRecords.{record_ended, table_written}
use Rattle.share_plans.proofs.collecting.applies.Goals as goal

pub returns-in-Ok-Wrote-clause-went : goal.returns-in-Ok-Wrote-clause-went
returns-in-Ok-Wrote-clause-went g c =
    let a = c.args.applying in
    table_written c.args.world.now c.next.new.world c.args.core.now a c.args.part c.args.group
    (subst Consistent c.locks.ensures c.geometry-geometry.ensures.consistent) c.requires.stands _ c.next.new.self.left
    (subst (apply.Went c.args.core.now.host c.args.world.now c.next.new.world a.entry.edits a.left c.next.new.self.left)
    c.in-Ok-Wrote.field-0-is c.in-Ok-Wrote.ensures.went) c.next.new.self c.in-Ok-Wrote.ensures.entry refl
    (subst (AppliedSo c.args.core.now.host c.args.world.now c.next.new.world) c.in-Ok-Wrote.field-0-is c.in-Ok-Wrote.ensures.so)

pub returns-in-Ok-Finished-clause-went : goal.returns-in-Ok-Finished-clause-went
returns-in-Ok-Finished-clause-went g c =
    let core = c.args.core.now in
    let a = c.args.applying in
    let shown : c.unwrap-key.result.0 ≡ key_at c.locks-2.result.now core.host =
    subst (λ o. IfSome o (λ (key : Key). key.0 ≡ key_at c.locks-2.result.now core.host)) c.unwrap-key.ensures c.key_of.ensures.key in
    let key : c.unwrap-key.result.0 ≡ key_at c.args.world.now.locks core.host =
    shown ∙ ap (λ (l : LocksView). key_at l core.host) c.locks-2.ensures in
    subst (λ (s : Gathering). Went c.args.world.now c.next.new.world core core (Applies a c.args.part c.args.group) (More s))
    (sym (c.behind_group.ensures
    ∙ ap (λ (k : ℕ). behind_group (emptying_of k core.part c.args.part.table (current core.groups) c.args.group.table) c.args.part c.args.group) key))
    (record_ended c.args.world.now c.next.new.world core a c.args.part c.args.group
    (subst Consistent c.locks.ensures c.geometry-geometry.ensures.consistent) c.requires.stands _
    (subst (apply.Went core.host c.args.world.now c.next.new.world a.entry.edits a.left c.next.new.self.left)
    c.in-Ok-Finished.field-0-is c.in-Ok-Finished.ensures.went)
    (subst (AppliedSo core.host c.args.world.now c.next.new.world) c.in-Ok-Finished.field-0-is c.in-Ok-Finished.ensures.so) refl)
