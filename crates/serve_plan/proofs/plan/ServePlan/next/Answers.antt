use Rattle.std.proofs.Common.{refl, subst}
use Rattle.disk_locks.specs.Consistent.{Consistent}
use Rattle.serve_plan.specs.Steps.{Went}
use Rattle.serve_plan.specs.declared.plan.Doing.{Doing}
use Rattle.serve_plan.specs.laws.StillLaws.{serve_cut, serve_untouched, serve_went}
use Rattle.serve_plan.proofs.plan.ServePlan.next.Goals as goal

pub returns-in-Ok-clause-step : goal.returns-in-Ok-clause-step
returns-in-Ok-clause-step g c =
    serve_went c.args.world.now c.steps.new.world c.args.self.now.host c.args.self.now.counts c.steps.new.counts c.comes.new.self.counts
    c.args.self.now.doing c.comes.new.self.doing c.in-Ok.come c.comes.result
    (subst (λ (d : Doing). Went c.args.self.now.host c.args.world.now c.steps.new.world c.args.self.now.counts c.steps.new.counts d c.in-Ok.come)
    c.replace-doing.ensures.value c.in-Ok.ensures.went) c.comes.ensures.counts c.comes.ensures.step c.comes.ensures.later

pub returns-in-Ok-cut_step-clause-step : goal.returns-in-Ok-cut_step-clause-step
returns-in-Ok-cut_step-clause-step g c =
    serve_cut c.args.world.now c.steps.new.world c.args.self.now.host c.args.self.now.counts _ c.args.self.now.doing _ c.in-Err.why
    c.in-Ok-cut_step.ensures.cut.0 c.in-Ok-cut_step.step (subst Consistent c.locks.ensures c.geometry-geometry.ensures.consistent)
    c.requires.stands c.in-Err.ensures.cut c.in-Ok-cut_step.ensures.cut.1 c.in-Ok-cut_step.ensures.cut.2

pub returns-in-Err-cut_step-clause-none : goal.returns-in-Err-cut_step-clause-none
returns-in-Err-cut_step-clause-none g c =
    serve_untouched c.args.world.now c.steps.new.world c.args.self.now.host c.in-Err.why c.in-Err.ensures.cut
    (c.in-Err-cut_step.ensures.none refl)
