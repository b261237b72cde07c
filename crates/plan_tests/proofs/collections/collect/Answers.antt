use Rattle.std.proofs.Common.{◌∙◌, ap, refl, subst, sym}
use Rattle.host_facts.specs.Others.{Others}
use Rattle.host_facts.specs.Views.{WorldView}
use Rattle.share_plans.specs.Gatherings.{At}
use Rattle.share_plans.specs.laws.GatheringStays.{collect_begins}
use Rattle.plan_tests.proofs.CollectLaws.{goes_on}
use Rattle.plan_tests.proofs.FileLaws.{others_on}
use Rattle.plan_tests.proofs.WorldLaws.{still}
use Rattle.plan_tests.proofs.collections.collect.Goals as goal

pub loop-step-preserved : goal.loop-step-preserved
loop-step-preserved g c =
    let was = c.loop-step.invariant in
    let on = goes_on _ _ _ _ _ _ _ c.in-Ok.ensures.step c.in_default.not-Answered in record {
      host = on.host ∙ was.host;
      stands = on.stands;
      untold = still c.loop-step.plan.core.host c.loop-step.world _ c.next.ensures.others was.untold;
      geometry = c.next.ensures.others.locks.lasts.geometry ∙ was.geometry;
      others =
          others_on _ c.loop-step.plan.core.host _ _ _ c.locks.result.now c.locks.ensures c.geometry-geometry.ensures.consistent was.host
          was.others c.next.ensures.others;
    }

pub returns-in-Answered-clause-others : goal.returns-in-Answered-clause-others
returns-in-Answered-clause-others g c =
    let was = c.loop-step.invariant in
    others_on _ c.loop-step.plan.core.host _ _ _ c.locks.result.now c.locks.ensures c.geometry-geometry.ensures.consistent was.host was.others
    c.next.ensures.others

pub returns-in-Err-clause-others : goal.returns-in-Err-clause-others
returns-in-Err-clause-others g c =
    let was = c.loop-step.invariant in
    others_on _ c.loop-step.plan.core.host _ _ _ c.locks.result.now c.locks.ensures c.geometry-geometry.ensures.consistent was.host was.others
    c.next.ensures.others
