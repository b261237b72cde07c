use Rattle.std.proofs.Common.{ap, subst, sym}
use Rattle.disk_locks.specs.Consistent.{Consistent}
use Rattle.share_plans.specs.GatheringSteps.{Went}
use Rattle.share_plans.specs.Spents.{rest}
use Rattle.share_plans.specs.declared.collection.Gathered.TheVariants.{More}
use Rattle.share_plans.specs.declared.collection.Gathering.{Gathering}
use Rattle.share_plans.specs.declared.collection.Gathering.TheVariants.{FreesGroup}
use Rattle.share_plans.specs.laws.GatheringNotes.{with_all}
use Rattle.share_plans.specs.laws.GatheringStages.{group_let_go}
use Rattle.share_plans.proofs.collecting.frees_group.Goals as goal

pub returns-in-Ok-clause-went : goal.returns-in-Ok-clause-went
returns-in-Ok-clause-went g c =
    let core = c.args.core.now in
    subst (λ (s : Gathering). Went c.args.world.now c.free_last-came.new.world core
    (with_all core c.free_last-came.new.self c.take_first-visited.new.self core.count) (FreesGroup c.args.part) (More s)) (sym c.behind_list.ensures)
    (group_let_go c.args.world.now c.free_last-came.new.world core c.args.part c.free_last-came.new.self c.take_first-visited.new.self c.in-Ok._freed
    (subst Consistent c.locks.ensures c.geometry-geometry.ensures.consistent) c.requires.stands c.in-Ok.ensures.went c.in-Ok.ensures.so
    (ap rest (sym c.take_first-visited.ensures)))
