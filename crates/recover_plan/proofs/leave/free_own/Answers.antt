use Rattle.std.proofs.Common.{ap, subst}
use Rattle.std.specs.Prelude.{Err}
use Rattle.disk_locks.specs.Consistent.{Consistent}
use Rattle.plan_parts.specs.laws.TakenLaws.{others_locks}
use Rattle.recover_plan.specs.laws.LeaveLaws.{own_freed_came, own_freed_cut, own_may, own_unneeded}
use Rattle.recover_plan.specs.laws.StepLaws.{ready_key}
use Rattle.recover_plan.proofs.leave.free_own.Goals as goal

pub free_slot-requires-clause-key : goal.free_slot-requires-clause-key
free_slot-requires-clause-key g c =
    ready_key c.args.world.now c.args.host (subst Consistent c.locks.ensures c.geometry-geometry.ensures.consistent) c.requires.ready

pub free_slot-requires-clause-may : goal.free_slot-requires-clause-may
free_slot-requires-clause-may g c =
    own_may c.args.world.now c.args.host (subst Consistent c.locks.ensures c.geometry-geometry.ensures.consistent) c.requires.ready
    c.requires.files

pub free_slot-requires-clause-unneeded : goal.free_slot-requires-clause-unneeded
free_slot-requires-clause-unneeded g c =
    own_unneeded c.args.world.now c.args.host (subst Consistent c.locks.ensures c.geometry-geometry.ensures.consistent) c.requires.ready
    c.requires.files

pub returns-in-Ok-clause-came : goal.returns-in-Ok-clause-came
returns-in-Ok-clause-came g c watch stands =
    own_freed_came c.args.world.now c.free_slot.new.world c.args.host watch
    (subst Consistent c.locks.ensures c.geometry-geometry.ensures.consistent) c.in-Ok.ensures.consistent stands c.requires.files
    c.in-Ok.ensures.others c.in-Ok.ensures.standing c.in-Ok.field-0 c.in-Ok.ensures.did c.in-Ok.ensures.freed

pub returns-in-Ok-clause-others : goal.returns-in-Ok-clause-others
returns-in-Ok-clause-others g c =
    others_locks c.args.world.now c.free_slot.new.world c.args.host
    (subst Consistent c.locks.ensures c.geometry-geometry.ensures.consistent) c.in-Ok.ensures.others c.in-Ok.ensures.standing

pub returns-in-Err-clause-others : goal.returns-in-Err-clause-others
returns-in-Err-clause-others g c =
    others_locks c.args.world.now c.free_slot.new.world c.args.host
    (subst Consistent c.locks.ensures c.geometry-geometry.ensures.consistent) c.in-Err.ensures.others c.in-Err.ensures.standing

pub returns-in-Err-clause-cut : goal.returns-in-Err-clause-cut
returns-in-Err-clause-cut g c =
    own_freed_cut c.args.world.now c.free_slot.new.world c.args.host c.in-Err.why
    (subst Consistent c.locks.ensures c.geometry-geometry.ensures.consistent) c.requires.host (returns-in-Err-clause-others g c)
    c.in-Err.ensures.did (λ at is. c.in-Err.ensures.sound at (ap Err is))
