use Rattle.std.proofs.Common.{subst, sym}
use Rattle.vol_base.specs.declared.answer.Answer.{Answer}
use Rattle.disk_locks.specs.Consistent.{Consistent}
use Rattle.share_plans.specs.GatheringSteps.{Went}
use Rattle.share_plans.specs.declared.collection.Gathered.TheVariants.{Answered}
use Rattle.share_plans.specs.declared.collection.Gathering.TheVariants.{FreesPart}
use Rattle.share_plans.specs.laws.GatheringNotes.{with_all}
use Rattle.share_plans.specs.laws.GatheringStages.{part_let_go}
use Rattle.share_plans.proofs.collecting.frees_part.Goals as goal

pub returns-in-Ok-clause-went : goal.returns-in-Ok-clause-went
returns-in-Ok-clause-went g c =
    let core = c.args.core.now in
    subst (λ (a : Answer). Went c.args.world.now c.free_last-came.new.world core (with_all core c.free_last-came.new.self core.groups core.count)
    (FreesPart c.args.busy) (Answered a)) (sym c.answer.ensures)
    (part_let_go c.args.world.now c.free_last-came.new.world core c.free_last-came.new.self c.args.busy c.in-Ok._freed
    (subst Consistent c.locks.ensures c.geometry-geometry.ensures.consistent)
    (subst Consistent c.locks-2.ensures c.geometry-geometry-2.ensures.consistent) c.requires.stands c.in-Ok.ensures.went c.in-Ok.ensures.so)
