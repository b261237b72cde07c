use Rattle.std.proofs.Common.{refl, subst}
use Rattle.disk_locks.specs.Consistent.{Consistent}
use Rattle.held_cache.specs.Kept.{ForgetsHost}
use Rattle.file_plans.specs.Plans.{IsRefused}
use Rattle.file_plans.specs.laws.PlanLaws.{cut_steps, untouched}
use Rattle.file_plans.proofs.plan.goes.Goals as goal

pub returns-in-Ok-cut_step-clause-step : goal.returns-in-Ok-cut_step-clause-step
returns-in-Ok-cut_step-clause-step g c =
    cut_steps c.args.world.now c.steps.new.world c.args.cache.now c.steps.new.cache c.forget_host.new.self c.args.core.now c.steps.new.core
    c.args.stage c.in-Err.why c.in-Ok-cut_step.ensures.cut.0 c.in-Ok-cut_step.step c.requires.stands
    (subst Consistent c.locks.ensures c.geometry-geometry.ensures.consistent) c.in-Err.ensures.cut c.in-Ok-cut_step.ensures.cut.1
    c.steps.ensures.leaves
    (subst (λ h. ForgetsHost c.steps.new.cache c.forget_host.new.self h) c.requires.host c.forget_host.ensures)
    c.steps.ensures.others.locks.lasts.geometry c.in-Ok-cut_step.ensures.cut.2

pub returns-in-Err-cut_step-clause-none : goal.returns-in-Err-cut_step-clause-none
returns-in-Err-cut_step-clause-none g c =
    untouched c.args.world.now c.steps.new.world c.args.core.now c.args.stage
    (subst (λ why. IsRefused c.args.world.now c.steps.new.world c.args.core.now c.args.stage why) (c.in-Err-cut_step.ensures.none refl)
    c.in-Err.ensures.cut)
