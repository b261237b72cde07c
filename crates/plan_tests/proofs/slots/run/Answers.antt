use Rattle.std.proofs.Common.{ℕ, sym, subst, ◌∙◌}
use Rattle.host_facts.specs.Others.{Others}
use Rattle.host_facts.specs.Views.{WorldView}
use Rattle.recover_plan.specs.PlanSteps.{AreWatched}
use Rattle.recover_plan.specs.Plans.{PlanStands}
use Rattle.recover_plan.specs.laws.RegisterLaws.{nothing_watched}
use Rattle.plan_tests.proofs.FileLaws.{others_on}
use Rattle.plan_tests.proofs.SlotLaws.{ended, goes_on}
use Rattle.plan_tests.proofs.WorldLaws.{still}
use Rattle.plan_tests.proofs.slots.run.Goals as goal
use Rattle.plan_tests.proofs.slots.run.Goals.{else-loop-step-test, then-loop-step-test+in-Err}

pub returns-in-Answered-clause-watched : goal.returns-in-Answered-clause-watched
returns-in-Answered-clause-watched g c =
    ended c.args.host c.loop-step.plan.host _ _ _ _ _ _ c.in-Ok.step c.in-Answered.answer c.loop-step.invariant.host c.in-Ok.ensures.step
    c.in-Answered.is

pub returns-clause-watched : goal.returns-clause-watched
returns-clause-watched g c =
    subst (λ watch. AreWatched c.loop-step-test.world c.args.host watch) (sym c.new.ensures)
    (nothing_watched c.loop-step-test.world c.args.host)

pub returns-in-Answered-clause-others : goal.returns-in-Answered-clause-others
returns-in-Answered-clause-others g c =
    others_on _ c.loop-step.plan.host _ _ _ c.locks.result.now c.locks.ensures c.geometry-geometry.ensures.consistent
    c.loop-step.invariant.host c.loop-step.invariant.others c.next.ensures.others

pub loop-step-preserved : goal.loop-step-preserved
loop-step-preserved g c = let was = c.loop-step.invariant in record {
  host = c.next.ensures.host ∙ was.host;
  stands =
      subst (λ (h : ℕ). PlanStands c.next.new.world h c.next.new.watch c.next.new.self.doing) (sym c.next.ensures.host)
      (goes_on _ _ _ _ _ _ _ _ c.in-Ok.ensures.step c.in_default.not-Answered);
  untold = still c.loop-step.plan.host c.loop-step.world _ c.next.ensures.others was.untold;
  geometry = c.next.ensures.others.locks.lasts.geometry ∙ was.geometry;
  others =
      others_on _ c.loop-step.plan.host _ _ _ c.locks.result.now c.locks.ensures c.geometry-geometry.ensures.consistent was.host was.others
      c.next.ensures.others;
}

pub returns-clause-others : goal.returns-clause-others
returns-clause-others g c = elim c.loop-step-test.branch [
  | else-loop-step-test w ↦ subst (λ (x : WorldView). Others c.args.host c.args.world.now x) (sym w.world-is) c.loop-step.invariant.others
  | then-loop-step-test+in-Err w ↦
      subst (λ (x : WorldView). Others c.args.host c.args.world.now x) (sym w.world-is)
      (others_on _ c.loop-step.plan.host _ _ _ c.locks.result.now c.locks.ensures c.geometry-geometry.ensures.consistent
      c.loop-step.invariant.host c.loop-step.invariant.others w.next.ensures.others)
]
