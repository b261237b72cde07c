use Rattle.std.proofs.Common.{ap, subst}
use Rattle.std.specs.Prelude.{Err}
use Rattle.disk_locks.specs.Consistent.{Consistent}
use Rattle.plan_parts.specs.laws.TakenLaws.{others_locks}
use Rattle.recover_plan.specs.laws.FreeLaws.{may_free, swept_unneeded}
use Rattle.recover_plan.specs.laws.FreeSteps.{forgets_kept, forgets_one, free_came, free_cut}
use Rattle.recover_plan.specs.laws.StepLaws.{ready_key}
use Rattle.recover_plan.proofs.recover.free.Goals as goal

pub free_slot-requires-clause-key : goal.free_slot-requires-clause-key
free_slot-requires-clause-key g c =
    ready_key c.args.world.now c.args.host (subst Consistent c.locks.ensures c.geometry-geometry.ensures.consistent)
    c.requires.stands.at.0.ready

pub free_slot-requires-clause-may : goal.free_slot-requires-clause-may
free_slot-requires-clause-may g c =
    may_free c.args.world.now c.args.host c.args.of c.args.dead.0 c.args.watch.now c.requires.stands.at.0 c.requires.stands.at.1

pub free_slot-requires-clause-unneeded : goal.free_slot-requires-clause-unneeded
free_slot-requires-clause-unneeded g c =
    swept_unneeded c.args.world.now c.args.host c.args.of c.args.dead.0 c.requires.stands.at.1

pub returns-in-Ok-clause-came : goal.returns-in-Ok-clause-came
returns-in-Ok-clause-came g c =
    free_came c.args.world.now c.free_slot.new.world c.args.host c.args.of c.args.dead.0 c.args.watch.now c.forget.new.self
    (subst Consistent c.locks.ensures c.geometry-geometry.ensures.consistent) c.in-Ok.ensures.consistent c.requires.stands.at.0
    c.requires.stands.at.1 c.in-Ok.ensures.others c.in-Ok.ensures.standing c.in-Ok.field-0 c.in-Ok.ensures.did c.in-Ok.ensures.freed
    (forgets_kept c.args.watch.now c.forget.new.self c.args.of c.forget.ensures)
    (forgets_one c.args.watch.now c.forget.new.self c.args.of c.forget.ensures) c.requires.stands.watched

pub returns-in-Ok-clause-others : goal.returns-in-Ok-clause-others
returns-in-Ok-clause-others g c =
    others_locks c.args.world.now c.free_slot.new.world c.args.host
    (subst Consistent c.locks.ensures c.geometry-geometry.ensures.consistent) c.in-Ok.ensures.others c.in-Ok.ensures.standing

pub returns-in-Err-clause-others : goal.returns-in-Err-clause-others
returns-in-Err-clause-others g c =
    others_locks c.args.world.now c.free_slot.new.world c.args.host
    (subst Consistent c.locks.ensures c.geometry-geometry.ensures.consistent) c.in-Err.ensures.others c.in-Err.ensures.standing

pub returns-in-Err-clause-cut : goal.returns-in-Err-clause-cut
returns-in-Err-clause-cut g c =
    free_cut c.args.world.now c.free_slot.new.world c.args.host c.args.of c.args.dead.0 c.args.watch.now c.in-Err.why
    (subst Consistent c.locks.ensures c.geometry-geometry.ensures.consistent) c.requires.stands.at.0 c.requires.stands.at.1
    (returns-in-Err-clause-others g c) c.in-Err.ensures.did (λ at is. c.in-Err.ensures.sound at (ap Err is)) _
