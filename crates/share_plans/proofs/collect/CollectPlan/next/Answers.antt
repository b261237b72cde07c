use Rattle.std.proofs.Common.{refl, subst}
use Rattle.disk_locks.specs.Consistent.{Consistent}
use Rattle.share_plans.specs.GatheringSteps.{Went}
use Rattle.share_plans.specs.declared.collection.Gathering.{Gathering}
use Rattle.share_plans.specs.laws.GatheringStays.{collect_cut, collect_untouched, collect_went}
use Rattle.share_plans.proofs.collect.CollectPlan.next.Goals as goal

pub returns-in-Ok-clause-step : goal.returns-in-Ok-clause-step
returns-in-Ok-clause-step g c =
    collect_went c.args.world.now c.steps.new.world c.args.self.now.core c.steps.new.core c.comes.new.self.core c.args.self.now.stage
    c.comes.new.self.stage c.in-Ok.came c.comes.result
    (subst (λ (s : Gathering). Went c.args.world.now c.steps.new.world c.args.self.now.core c.steps.new.core s c.in-Ok.came)
    c.replace-stage.ensures.value c.in-Ok.ensures.went) c.comes.ensures.core c.comes.ensures.step c.comes.ensures.stage

pub returns-in-Ok-cut_step-clause-step : goal.returns-in-Ok-cut_step-clause-step
returns-in-Ok-cut_step-clause-step g c =
    collect_cut c.args.world.now c.steps.new.world c.args.self.now.core _ c.args.self.now.stage _ c.in-Err.why
    c.in-Ok-cut_step.ensures.cut.0 c.in-Ok-cut_step.step (subst Consistent c.locks.ensures c.geometry-geometry.ensures.consistent)
    c.requires.stands c.in-Err.ensures.cut c.in-Ok-cut_step.ensures.cut.1 c.in-Ok-cut_step.ensures.cut.2

pub returns-in-Err-cut_step-clause-none : goal.returns-in-Err-cut_step-clause-none
returns-in-Err-cut_step-clause-none g c =
    collect_untouched c.args.world.now c.steps.new.world c.args.self.now.core c.in-Err.why c.in-Err.ensures.cut
    (c.in-Err-cut_step.ensures.none refl)
