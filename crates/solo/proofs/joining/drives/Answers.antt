use Rattle.std.proofs.Common.{◌∙◌, None, Result, Some, refl, subst, sym}
use Rattle.std.specs.Prelude.{IfErr, OnOk}
use Rattle.disk_locks.specs.Consistent.{Consistent}
use Rattle.host_facts.specs.Others.{Others}
use Rattle.recover_plan.specs.LoneSteps.{IsRefused, LoneStepped}
use Rattle.recover_plan.specs.Lones.{LoneAt, keys_left}
use Rattle.solo.specs.Starts.{HasStartCause, IsDriven, IsJoined, ended_by}
use Rattle.settle.specs.declared.lone.LoneNo.{LoneNo}
use Rattle.solo.specs.laws.StartLaws.{driven_first, driven_on, ended_cause, ended_joined, ended_later, never_fenced, refused_cause, refused_later}
use Rattle.solo.proofs.joining.drives.Goals as goal

pub loop-end-init : goal.loop-end-init
loop-end-init g c = record {
  host = c.requires.host;
  same = refl;
  driven = driven_first c.args.world.now c.args.plan.of c.args.plan.stage c.requires.at c.requires.open;
}

pub next-requires : goal.next-requires
next-requires g c = record {
  at = subst (λ h. LoneAt c.loop-end.world h c.loop-end.plan.of c.loop-end.plan.stage) (sym c.loop-end.invariant.host)
      c.loop-end.invariant.driven.at;
}

pub loop-end-preserved : goal.loop-end-preserved
loop-end-preserved g c = record {
  host = c.in-Ok.ensures.host ∙ c.loop-end.invariant.host;
  same = c.in-Ok.ensures.of ∙ c.loop-end.invariant.same;
  driven = subst (λ y. IsDriven (keys_left c.args.plan.stage) c.args.world.now c.next.new.world y c.next.new.self.stage) (sym c.in-Ok.ensures.of)
      (driven_on (keys_left c.args.plan.stage) c.args.world.now c.loop-end.world c.next.new.world c.loop-end.plan.of c.loop-end.plan.stage
      (subst Consistent c.locks.ensures c.geometry-geometry.ensures.consistent)
      (subst Consistent c.locks-in-loop-end.ensures c.geometry-geometry-in-loop-end.ensures.consistent)
      c.loop-end.invariant.driven c.next.new.self.stage
      (subst (λ h. Others h c.loop-end.world c.next.new.world) c.loop-end.invariant.host c.in-Ok.ensures.others)
      (subst (λ h. LoneStepped h c.loop-end.plan.of c.loop-end.world c.next.new.world c.loop-end.plan.stage c.next.new.self.stage None)
      c.loop-end.invariant.host (rw c.in-None.is at c.in-Ok.ensures.stepped)));
}

pub returns-in-Some-clause-later : goal.returns-in-Some-clause-later
returns-in-Some-clause-later g c =
    ended_later (keys_left c.args.plan.stage) c.args.world.now c.loop-end.world c.next.new.world c.loop-end.plan.of c.loop-end.plan.stage
    (subst Consistent c.locks.ensures c.geometry-geometry.ensures.consistent)
    (subst Consistent c.locks-in-loop-end.ensures c.geometry-geometry-in-loop-end.ensures.consistent)
    c.loop-end.invariant.driven c.next.new.self.stage
    (subst (λ h. Others h c.loop-end.world c.next.new.world) c.loop-end.invariant.host c.in-Ok.ensures.others) c.in-Some.end
    (subst (λ h. LoneStepped h c.loop-end.plan.of c.loop-end.world c.next.new.world c.loop-end.plan.stage c.next.new.self.stage (Some c.in-Some.end))
    c.loop-end.invariant.host (rw c.in-Some.is at c.in-Ok.ensures.stepped))

pub returns-in-Some-clause-joined : goal.returns-in-Some-clause-joined
returns-in-Some-clause-joined g c =
    subst (λ (r : Result Unit LoneNo). OnOk r (IsJoined c.args.world.now c.next.new.world c.args.plan.of)) (sym c.ended.ensures)
    (subst (λ y. OnOk (ended_by c.in-Some.end) (IsJoined c.args.world.now c.next.new.world y)) c.loop-end.invariant.same
    (ended_joined (keys_left c.args.plan.stage) c.args.world.now c.loop-end.world c.next.new.world c.loop-end.plan.of c.loop-end.plan.stage
    (subst Consistent c.locks.ensures c.geometry-geometry.ensures.consistent)
    (subst Consistent c.locks-in-loop-end.ensures c.geometry-geometry-in-loop-end.ensures.consistent)
    c.loop-end.invariant.driven c.next.new.self.stage
    (subst (λ h. Others h c.loop-end.world c.next.new.world) c.loop-end.invariant.host c.in-Ok.ensures.others) c.in-Some.end
    (subst (λ h. LoneStepped h c.loop-end.plan.of c.loop-end.world c.next.new.world c.loop-end.plan.stage c.next.new.self.stage (Some c.in-Some.end))
    c.loop-end.invariant.host (rw c.in-Some.is at c.in-Ok.ensures.stepped))))

pub returns-in-Some-clause-cause : goal.returns-in-Some-clause-cause
returns-in-Some-clause-cause g c =
    subst (λ (r : Result Unit LoneNo). IfErr r (HasStartCause c.args.world.now.locks.disk c.next.new.world.locks.disk)) (sym c.ended.ensures)
    (ended_cause (keys_left c.args.plan.stage) c.args.world.now c.loop-end.world c.next.new.world c.loop-end.plan.of c.loop-end.plan.stage
    (subst Consistent c.locks.ensures c.geometry-geometry.ensures.consistent)
    (subst Consistent c.locks-in-loop-end.ensures c.geometry-geometry-in-loop-end.ensures.consistent)
    c.loop-end.invariant.driven c.next.new.self.stage
    (subst (λ h. Others h c.loop-end.world c.next.new.world) c.loop-end.invariant.host c.in-Ok.ensures.others) c.in-Some.end
    (subst (λ h. LoneStepped h c.loop-end.plan.of c.loop-end.world c.next.new.world c.loop-end.plan.stage c.next.new.self.stage (Some c.in-Some.end))
    c.loop-end.invariant.host (rw c.in-Some.is at c.in-Ok.ensures.stepped)))

pub refusal_of-requires : goal.refusal_of-requires
refusal_of-requires g c =
    never_fenced (keys_left c.args.plan.stage) c.args.world.now c.loop-end.world c.next.new.world c.loop-end.plan.of c.loop-end.plan.stage
    (subst Consistent c.locks.ensures c.geometry-geometry.ensures.consistent)
    (subst Consistent c.locks-in-loop-end.ensures c.geometry-geometry-in-loop-end.ensures.consistent)
    c.loop-end.invariant.driven c.in-Err.why
    (subst (λ h. IsRefused h c.loop-end.world c.next.new.world c.in-Err.why) c.loop-end.invariant.host c.in-Err.ensures.refused)

pub returns-in-Err-clause-later : goal.returns-in-Err-clause-later
returns-in-Err-clause-later g c =
    refused_later (keys_left c.args.plan.stage) c.args.world.now c.loop-end.world c.next.new.world c.loop-end.plan.of c.loop-end.plan.stage
    (subst Consistent c.locks.ensures c.geometry-geometry.ensures.consistent)
    (subst Consistent c.locks-in-loop-end.ensures c.geometry-geometry-in-loop-end.ensures.consistent)
    c.loop-end.invariant.driven c.in-Err.why
    (subst (λ h. IsRefused h c.loop-end.world c.next.new.world c.in-Err.why) c.loop-end.invariant.host c.in-Err.ensures.refused)

pub returns-in-Err-clause-cause : goal.returns-in-Err-clause-cause
returns-in-Err-clause-cause g c =
    subst (HasStartCause c.args.world.now.locks.disk c.next.new.world.locks.disk) (sym c.refusal_of.ensures)
    (refused_cause (keys_left c.args.plan.stage) c.args.world.now c.loop-end.world c.next.new.world c.loop-end.plan.of c.loop-end.plan.stage
    (subst Consistent c.locks.ensures c.geometry-geometry.ensures.consistent)
    (subst Consistent c.locks-in-loop-end.ensures c.geometry-geometry-in-loop-end.ensures.consistent)
    c.loop-end.invariant.driven c.in-Err.why
    (subst (λ h. IsRefused h c.loop-end.world c.next.new.world c.in-Err.why) c.loop-end.invariant.host c.in-Err.ensures.refused))
