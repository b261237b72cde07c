use Rattle.std.proofs.Common.{refl, subst}
use Rattle.disk_locks.specs.Consistent.{Consistent}
use Rattle.merge_plan.specs.Steps.{Went}
use Rattle.merge_plan.specs.declared.plan.Doing.{Doing}
use Rattle.merge_plan.specs.laws.CutLaws.{merge_cut, merge_untouched, merge_went}
use Rattle.merge_plan.proofs.plan.MergePlan.next.Goals as goal

pub returns-in-Ok-clause-step : goal.returns-in-Ok-clause-step
returns-in-Ok-clause-step g c =
    merge_went c.args.world.now c.steps.new.world c.args.self.now.host c.args.room.now c.steps.new.room c.args.self.now.doing
    c.comes.new.self.doing c.in-Ok.come c.comes.result
    (subst (λ (d : Doing). Went c.args.self.now.host c.args.world.now c.steps.new.world c.args.room.now c.steps.new.room d c.in-Ok.come)
    c.replace-doing.ensures.value c.in-Ok.ensures.went) c.comes.ensures.step c.comes.ensures.later

pub returns-in-Ok-cut_step-clause-step : goal.returns-in-Ok-cut_step-clause-step
returns-in-Ok-cut_step-clause-step g c =
    merge_cut c.args.world.now c.steps.new.world c.args.self.now.host c.args.room.now c.steps.new.room c.args.self.now.doing _ c.in-Err.why
    c.in-Ok-cut_step.ensures.cut.0 c.in-Ok-cut_step.step (subst Consistent c.locks.ensures c.geometry-geometry.ensures.consistent)
    c.requires.stands c.requires.unasked c.in-Err.ensures.cut c.in-Ok-cut_step.ensures.cut.1 c.in-Ok-cut_step.ensures.cut.2

pub returns-in-Err-cut_step-clause-none : goal.returns-in-Err-cut_step-clause-none
returns-in-Err-cut_step-clause-none g c =
    merge_untouched c.args.world.now c.steps.new.world c.args.self.now.host c.in-Err.why c.in-Err.ensures.cut
    (c.in-Err-cut_step.ensures.none refl)
