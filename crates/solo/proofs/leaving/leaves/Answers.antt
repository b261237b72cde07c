use Rattle.std.proofs.Common.{◌<◌, ◌∙◌, Result, subst, sym}
use Rattle.std.specs.Prelude.{IfErr, OnOk}
use Rattle.disk_locks.specs.Consistent.{Consistent}
use Rattle.recover_plan.specs.CallsLeft.{calls_left}
use Rattle.recover_plan.specs.KeptVolumes.{KeepsVolume}
use Rattle.recover_plan.specs.LoneSteps.{IsSlotFree}
use Rattle.solo.specs.Leaves.{IsLeaving, left_by}
use Rattle.solo.specs.Stops.{HasCause}
use Rattle.settle.specs.declared.lone.LoneNo.{LoneNo}
use Rattle.solo.specs.laws.LeaveLaws.{leaving_first, leaving_on, left_answer, left_cause, left_free, left_volume, no_work, spent_later, steps_later}
use Rattle.solo.proofs.leaving.leaves.Goals as goal

pub loop-step-init : goal.loop-step-init
loop-step-init g c = record {
  host = c.new-plan.ensures.host;
  leaving = subst (λ h. IsLeaving c.args.world.now c.args.world.now h c.new-watch.result c.new-plan.result.doing)
      (sym c.new-plan.ensures.host)
      (leaving_first c.args.world.now c.new-watch.result c.new-plan.result.doing
      (subst Consistent c.locks.ensures c.geometry-geometry.ensures.consistent) c.requires.alone c.new-watch.ensures c.new-plan.ensures.doing);
}

pub next-requires : goal.next-requires
next-requires g c = record { stands = c.loop-step.invariant.leaving.at }

pub loop-step-smaller : goal.loop-step-smaller
loop-step-smaller g c =
    subst (λ h. calls_left c.next.new.world h c.next.new.self.doing < calls_left c.loop-step.world c.loop-step.plan.host c.loop-step.plan.doing)
    (sym c.in-Ok.ensures.host) c.in-Ok.ensures.step.fewer

pub loop-step-preserved : goal.loop-step-preserved
loop-step-preserved g c = record {
  host = c.in-Ok.ensures.host ∙ c.loop-step.invariant.host;
  leaving = subst (λ h. IsLeaving c.args.world.now c.next.new.world h c.next.new.watch c.next.new.self.doing) (sym c.in-Ok.ensures.host)
      (leaving_on c.args.world.now c.loop-step.world c.next.new.world c.loop-step.plan.host c.loop-step.watch c.next.new.watch
      c.loop-step.plan.doing c.next.new.self.doing c.in-Ok.step c.loop-step.invariant.leaving
      c.in-Ok.ensures.step c.in-More.is);
}

pub left-requires : goal.left-requires
left-requires g c =
    left_answer c.args.world.now c.loop-step.world c.next.new.world c.loop-step.plan.host c.loop-step.watch c.next.new.watch
    c.loop-step.plan.doing c.next.new.self.doing c.in-Ok.step c.loop-step.invariant.leaving
    c.in-Ok.ensures.step
    c.in-Answered.answer c.in-Answered.is

pub returns-in-Answered-clause-later : goal.returns-in-Answered-clause-later
returns-in-Answered-clause-later g c =
    steps_later c.args.world.now c.loop-step.world c.next.new.world c.loop-step.plan.host c.loop-step.watch c.next.new.watch
    c.loop-step.plan.doing c.next.new.self.doing c.in-Ok.step c.loop-step.invariant.leaving c.in-Ok.ensures.step

pub returns-in-Answered-clause-free : goal.returns-in-Answered-clause-free
returns-in-Answered-clause-free g c =
    subst (λ (r : Result Unit LoneNo). OnOk r (IsSlotFree c.next.new.world 0)) (sym c.left.ensures)
    (subst (λ h. OnOk (left_by c.in-Answered.answer) (IsSlotFree c.next.new.world h)) c.loop-step.invariant.host
    (left_free c.args.world.now c.loop-step.world c.next.new.world c.loop-step.plan.host c.loop-step.watch c.next.new.watch
    c.loop-step.plan.doing c.next.new.self.doing c.in-Ok.step c.loop-step.invariant.leaving
    c.in-Ok.ensures.step
    c.in-Answered.answer c.in-Answered.is))

pub returns-in-Answered-clause-kept : goal.returns-in-Answered-clause-kept
returns-in-Answered-clause-kept g c =
    subst (λ (r : Result Unit LoneNo). OnOk r (KeepsVolume c.args.world.now c.next.new.world)) (sym c.left.ensures)
    (left_volume c.args.world.now c.loop-step.world c.next.new.world c.loop-step.plan.host c.loop-step.watch c.next.new.watch
    c.loop-step.plan.doing c.next.new.self.doing c.in-Ok.step c.loop-step.invariant.leaving
    c.in-Ok.ensures.step
    c.in-Answered.answer c.in-Answered.is)

pub returns-in-Answered-clause-cause : goal.returns-in-Answered-clause-cause
returns-in-Answered-clause-cause g c =
    subst (λ (r : Result Unit LoneNo). IfErr r (HasCause c.args.world.now.locks.disk c.next.new.world.locks.disk)) (sym c.left.ensures)
    (left_cause c.args.world.now c.loop-step.world c.next.new.world c.loop-step.plan.host c.loop-step.watch c.next.new.watch
    c.loop-step.plan.doing c.next.new.self.doing c.in-Ok.step c.loop-step.invariant.leaving
    c.in-Ok.ensures.step
    c.in-Answered.answer c.in-Answered.is)

pub unreachable-requires : goal.unreachable-requires
unreachable-requires g c =
    no_work c.args.world.now c.loop-step.world c.next.new.world c.loop-step.plan.host c.loop-step.watch c.next.new.watch
    c.loop-step.plan.doing c.next.new.self.doing c.in-Ok.step c.loop-step.invariant.leaving
    c.in-Ok.ensures.step
    c.in-Work.field-0 c.in-Work.is

pub unreachable-unreachable : goal.unreachable-unreachable
unreachable-unreachable g c =
    no_work c.args.world.now c.loop-step.world c.next.new.world c.loop-step.plan.host c.loop-step.watch c.next.new.watch
    c.loop-step.plan.doing c.next.new.self.doing c.in-Ok.step c.loop-step.invariant.leaving
    c.in-Ok.ensures.step
    c.in-Work.field-0 c.in-Work.is

pub returns-in-Err-clause-later : goal.returns-in-Err-clause-later
returns-in-Err-clause-later g c =
    spent_later c.args.world.now c.loop-step.world c.next.new.world c.loop-step.plan.host c.loop-step.watch c.loop-step.plan.doing
    c.loop-step.invariant.leaving c.in-Err.ensures.none c.in-Err.ensures.later
