use Rattle.std.proofs.Common.{sym, subst}
use Rattle.file_plans.specs.declared.plan.FilePlan.{FilePlan}
use Rattle.plan_tests.proofs.FileLaws.{GoesOn, called_on, others_on, supplied_on}
use Rattle.plan_tests.proofs.WorldLaws.{still}
use Rattle.plan_tests.proofs.files.advance.Given.{Over}
use Rattle.plan_tests.proofs.files.advance.Goals as goal
use Rattle.plan_tests.proofs.files.advance.Goals.{in-More, in-Work}

pub returns-in-Answered-clause-others : goal.returns-in-Answered-clause-others
returns-in-Answered-clause-others g c =
    others_on _ c.loop-step.plan.core.host _ _ _ c.locks.result.now c.locks.ensures c.geometry-geometry.ensures.consistent
    c.loop-step.invariant.host c.loop-step.invariant.others c.next.ensures.others

goes_on : (g : Over) (c : goal.Joined-step g)
    → GoesOn c.next.new.world c.next.new.cache c.args.plan.now.core.host c.match-step.plan.core c.match-step.plan.stage
goes_on g c = elim c.match-step.branch [
  | in-More m ↦
      subst (λ (p : FilePlan). GoesOn c.next.new.world c.next.new.cache c.args.plan.now.core.host p.core p.stage) (sym m.plan-is)
      (called_on c.loop-step.world _ _ _ c.loop-step.plan.core _ c.loop-step.plan.stage _ c.expect-step.result c.loop-step.invariant.host _
      c.expect-step.ensures c.next.ensures.step m.in-More.is)
  | in-Work w ↦
      subst (λ (p : FilePlan). GoesOn c.next.new.world c.next.new.cache c.args.plan.now.core.host p.core p.stage) (sym w.plan-is)
      (supplied_on c.loop-step.world _ _ _ c.loop-step.plan.core _ c.loop-step.plan.stage _ c.expect-step.result
      c.loop-step.invariant.host _ c.expect-step.ensures c.next.ensures.step _ _ w.in-Work.block w.in-Work.is w.supply.ensures.core
      w.supply.ensures.stage)
]

pub loop-step-preserved : goal.loop-step-preserved
loop-step-preserved g c = let on = goes_on g c in record {
  stands = on.stands;
  cached = on.cached;
  untold = still c.loop-step.plan.core.host c.loop-step.world _ c.next.ensures.others c.loop-step.invariant.untold;
  others =
      others_on _ c.loop-step.plan.core.host _ _ _ c.locks.result.now c.locks.ensures c.geometry-geometry.ensures.consistent
      c.loop-step.invariant.host c.loop-step.invariant.others c.next.ensures.others;
  host = on.host;
}
