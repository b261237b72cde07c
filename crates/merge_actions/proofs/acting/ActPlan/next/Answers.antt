use Rattle.std.proofs.Common.{Option, subst, sym}
use Rattle.merge_actions.specs.Acts.{with_acting}
use Rattle.merge_actions.specs.Behind.{acted_of}
use Rattle.merge_actions.specs.Steps.{Went}
use Rattle.merge_actions.specs.declared.acting.ActPlan.{ActPlan}
use Rattle.merge_actions.specs.declared.acting.Acted.{Acted}
use Rattle.merge_actions.specs.declared.acting.Acting.{Acting}
use Rattle.merge_actions.proofs.acting.ActPlan.next.Goals as goal

pub returns-in-Ok-clause-went : goal.returns-in-Ok-clause-went
returns-in-Ok-clause-went g c =
    let v = c.args.world.now in
    let w = c.steps.new.world in
    let old = c.args.self.now in
    subst (λ (a : Acting). Went v w (with_acting old a) c.comes.new.self c.comes.result) c.replace-acting.ensures.value
    (subst (λ (o : Option Acted). Went v w (with_acting old c.replace-acting.result) c.comes.new.self o) (sym c.comes.ensures.result)
    (subst (λ (n : ActPlan). Went v w (with_acting old c.replace-acting.result) n (acted_of c.in-Ok.came)) (sym c.comes.ensures.plan)
    c.in-Ok.ensures.went))
