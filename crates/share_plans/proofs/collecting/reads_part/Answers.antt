use Rattle.std.proofs.Common.{◌≡◌, ◌∙◌, ap, subst, sym}
use Rattle.vol_layout.specs.declared.geometry.Geometry.{Geometry}
use Rattle.lock_store.specs.Views.{LocksView}
use Rattle.disk_locks.specs.Consistent.{Consistent}
use Rattle.share_plans.specs.GatheringSteps.{Went}
use Rattle.share_plans.specs.Spents.{named_groups}
use Rattle.share_plans.specs.declared.collection.Gathered.TheVariants.{More}
use Rattle.share_plans.specs.declared.collection.Gathering.{Gathering}
use Rattle.share_plans.specs.declared.collection.Gathering.TheVariants.{ReadsPart}
use Rattle.share_plans.specs.laws.GatheringNotes.{with_all}
use Rattle.share_plans.specs.laws.GatheringStages.{part_read}
use Rattle.share_plans.proofs.collecting.reads_part.Goals as goal

pub returns-in-Ok-clause-went : goal.returns-in-Ok-clause-went
returns-in-Ok-clause-went g c =
    let core = c.args.core.now in
    let groups_is : c.named_groups-core.result ≡ named_groups c.in-Ok.part.table c.args.world.now.locks.geometry.groups =
    c.named_groups-core.ensures
    ∙ ap (λ (x : Geometry). named_groups c.in-Ok.part.table x.groups)
    (c.geometry.ensures.geometry ∙ ap (λ (l : LocksView). l.geometry) c.locks-2.ensures ∙ c.in-Ok.ensures.went.looks.geometry) in
    subst (λ (s : Gathering). Went c.args.world.now c.fetch-came.new.world core
    (with_all core core.taken c.named_groups-core.result core.count) ReadsPart (More s)) (sym c.behind_list.ensures)
    (part_read c.args.world.now c.fetch-came.new.world core (subst Consistent c.locks.ensures c.geometry-geometry.ensures.consistent)
    (subst Consistent c.locks-2.ensures c.geometry.ensures.consistent) c.requires.stands c.in-Ok.part c.in-Ok.ensures.went c.in-Ok.ensures.so
    c.named_groups-core.result groups_is)
