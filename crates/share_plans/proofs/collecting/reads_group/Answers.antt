use Rattle.std.proofs.Common.{◌≡◌, ◌∙◌, ℕ, ap, refl, subst, sym}
use Rattle.std.specs.Prelude.{IfSome}
use Rattle.vol_base.specs.declared.block.Key.{Key}
use Rattle.vol_layout.specs.declared.kind.Table.TheVariants as tables
use Rattle.lock_store.specs.Views.{LocksView, key_at}
use Rattle.disk_locks.specs.Consistent.{Consistent}
use Rattle.plan_parts.specs.Fetched.{Fetched}
use Rattle.share_plans.specs.GatheringSteps.{Went}
use Rattle.share_plans.specs.Gatherings.{behind_group}
use Rattle.share_plans.specs.Spents.{current, emptying_of}
use Rattle.share_plans.specs.declared.collection.Gathered.TheVariants.{More}
use Rattle.share_plans.specs.declared.collection.Gathering.{Gathering}
use Rattle.share_plans.specs.declared.collection.Gathering.TheVariants.{ReadsGroup}
use Rattle.share_plans.specs.laws.GatheringStages.{group_read}
use Rattle.share_plans.proofs.collecting.reads_group.Goals as goal

pub returns-in-Ok-clause-went : goal.returns-in-Ok-clause-went
returns-in-Ok-clause-went g c =
    let core = c.args.core.now in
    let shown : c.unwrap-key.result.0 ≡ key_at c.locks-2.result.now core.host =
    subst (λ o. IfSome o (λ (key : Key). key.0 ≡ key_at c.locks-2.result.now core.host)) c.unwrap-key.ensures c.key_of.ensures.key in
    let key : c.unwrap-key.result.0 ≡ key_at c.args.world.now.locks core.host =
    shown ∙ ap (λ (l : LocksView). key_at l core.host) c.locks-2.ensures in
    subst (λ (s : Gathering). Went c.args.world.now c.fetch-came.new.world core core (ReadsGroup c.args.part) (More s))
    (sym (c.behind_group.ensures
    ∙ ap (λ (k : ℕ). behind_group (emptying_of k core.part c.args.part.table (current core.groups) c.in-Ok.group.table) c.args.part c.in-Ok.group) key))
    (group_read c.args.world.now c.fetch-came.new.world core c.args.part c.in-Ok.group _
    (subst Consistent c.locks.ensures c.geometry-geometry.ensures.consistent) c.requires.stands
    (subst (λ (r : ℕ). Fetched core.host c.args.world.now c.fetch-came.new.world (tables.Group r) c.in-Ok.group) c.first.ensures
    c.in-Ok.ensures.went) c.in-Ok.ensures.so refl)
