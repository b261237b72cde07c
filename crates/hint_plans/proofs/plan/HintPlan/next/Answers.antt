use Rattle.hint_plans.specs.laws.NextLaws.{has_stepped}
use Rattle.hint_plans.proofs.plan.HintPlan.next.Goals as goal

pub returns-in-Ok-clause-step : goal.returns-in-Ok-clause-step
returns-in-Ok-clause-step g c =
    has_stepped c.args.self.now.host c.args.world.now c.go.new.world c.args.pending.now c.go.new.pending c.replace-doing.result
    c.args.self.now.doing c.stepped.new.self.doing c.in-Ok.come c.stepped.result c.replace-doing.ensures.value c.stepped.ensures.step
    c.stepped.ensures.later c.in-Ok.ensures.came
