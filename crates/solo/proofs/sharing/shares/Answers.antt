use Rattle.std.proofs.Common.{Option, subst}
use Rattle.disk_locks.specs.Consistent.{Consistent}
use Rattle.share_plans.specs.Went.{Went, came_of}
use Rattle.share_plans.specs.declared.sharing.Shared.{Shared}
use Rattle.solo.specs.laws.ShareLaws.{way_begins, way_cut, way_cut_few, way_done, way_few, way_fewer, way_on}
use Rattle.solo.proofs.sharing.shares.Goals as goal

pub loop-answer-init : goal.loop-answer-init
loop-answer-init g c =
    way_begins c.args.world.now c.args.file c.args.index c.args.source c.new-plan.result.core c.new-plan.result.stage
    (subst Consistent c.locks.ensures c.geometry-geometry.ensures.consistent) c.requires.alone c.requires.both c.new-plan.ensures.core
    c.new-plan.ensures.stage c.new-plan.ensures.few

pub next-requires : goal.next-requires
next-requires g c = record { stands = c.loop-answer.invariant.at }

pub returns-in-Some-clause-shared : goal.returns-in-Some-clause-shared
returns-in-Some-clause-shared g c =
    way_done c.args.world.now c.loop-answer.world c.next.new.world c.args.file c.args.index c.args.source c.loop-answer.plan.core
    c.next.new.self.core c.loop-answer.plan.stage (subst Consistent c.locks.ensures c.geometry-geometry.ensures.consistent)
    (subst Consistent c.locks-in-loop-answer.ensures c.geometry-geometry-in-loop-answer.ensures.consistent) c.requires.alone c.requires.both
    c.loop-answer.invariant c.in-Some.shared
    (subst (λ (o : Option Shared). Went c.loop-answer.world c.next.new.world c.loop-answer.plan.core c.next.new.self.core
    c.loop-answer.plan.stage (came_of c.next.new.self.stage o)) c.in-Some.is c.in-Ok.ensures.went)

pub returns-in-Some-clause-few : goal.returns-in-Some-clause-few
returns-in-Some-clause-few g c =
    way_few c.args.world.now c.loop-answer.world c.next.new.world c.args.file c.args.index c.args.source c.loop-answer.plan.core
    c.next.new.self.core c.loop-answer.plan.stage (subst Consistent c.locks.ensures c.geometry-geometry.ensures.consistent)
    (subst Consistent c.locks-in-loop-answer.ensures c.geometry-geometry-in-loop-answer.ensures.consistent) c.requires.alone c.requires.both
    c.loop-answer.invariant c.in-Some.shared
    (subst (λ (o : Option Shared). Went c.loop-answer.world c.next.new.world c.loop-answer.plan.core c.next.new.self.core
    c.loop-answer.plan.stage (came_of c.next.new.self.stage o)) c.in-Some.is c.in-Ok.ensures.went)

pub loop-answer-smaller : goal.loop-answer-smaller
loop-answer-smaller g c =
    way_fewer c.loop-answer.world c.next.new.world c.loop-answer.plan.core c.next.new.self.core c.loop-answer.plan.stage c.next.new.self.stage
    (subst (λ (o : Option Shared). Went c.loop-answer.world c.next.new.world c.loop-answer.plan.core c.next.new.self.core
    c.loop-answer.plan.stage (came_of c.next.new.self.stage o)) c.in-None.is c.in-Ok.ensures.went)

pub loop-answer-preserved : goal.loop-answer-preserved
loop-answer-preserved g c =
    way_on c.args.world.now c.loop-answer.world c.next.new.world c.args.file c.args.index c.args.source c.loop-answer.plan.core
    c.next.new.self.core c.loop-answer.plan.stage (subst Consistent c.locks.ensures c.geometry-geometry.ensures.consistent)
    (subst Consistent c.locks-in-loop-answer.ensures c.geometry-geometry-in-loop-answer.ensures.consistent) c.requires.alone c.requires.both
    c.loop-answer.invariant c.next.new.self.stage
    (subst (λ (o : Option Shared). Went c.loop-answer.world c.next.new.world c.loop-answer.plan.core c.next.new.self.core
    c.loop-answer.plan.stage (came_of c.next.new.self.stage o)) c.in-None.is c.in-Ok.ensures.went)

pub returns-in-Err-clause-stopped : goal.returns-in-Err-clause-stopped
returns-in-Err-clause-stopped g c =
    way_cut c.args.world.now c.loop-answer.world c.next.new.world c.args.file c.args.index c.args.source c.loop-answer.plan.core
    c.next.new.self.core c.loop-answer.plan.stage (subst Consistent c.locks.ensures c.geometry-geometry.ensures.consistent)
    (subst Consistent c.locks-in-loop-answer.ensures c.geometry-geometry-in-loop-answer.ensures.consistent) c.requires.alone c.requires.both
    c.loop-answer.invariant c.in-Err.why c.in-Err.ensures.cut

pub returns-in-Err-clause-few : goal.returns-in-Err-clause-few
returns-in-Err-clause-few g c =
    way_cut_few c.args.world.now c.loop-answer.world c.next.new.world c.args.file c.args.index c.args.source c.loop-answer.plan.core
    c.next.new.self.core c.loop-answer.plan.stage (subst Consistent c.locks.ensures c.geometry-geometry.ensures.consistent)
    (subst Consistent c.locks-in-loop-answer.ensures c.geometry-geometry-in-loop-answer.ensures.consistent) c.requires.alone c.requires.both
    c.loop-answer.invariant c.in-Err.why c.in-Err.ensures.cut
