use Rattle.std.proofs.Common.{ap, subst}
use Rattle.std.specs.Prelude.{Err}
use Rattle.vol_base.specs.declared.command.Command.TheVariants.{Recover}
use Rattle.disk_locks.specs.Consistent.{Consistent}
use Rattle.plan_parts.specs.laws.TakenLaws.{others_locks}
use Rattle.recover_plan.specs.laws.FreeLaws.{may_free, swept_unneeded}
use Rattle.recover_plan.specs.laws.FreeSteps.{free_cut}
use Rattle.recover_plan.specs.laws.LoneEnds.{freed_came, recovers, thrice}
use Rattle.recover_plan.specs.laws.LoneLaws.{refused_by}
use Rattle.recover_plan.proofs.lone.frees.Goals as goal
use Rattle.recover_plan.specs.laws.StepLaws.{shut_out}

pub free_slot-requires-clause-host : goal.free_slot-requires-clause-host
free_slot-requires-clause-host g c = c.requires.at.0.base.host

pub free_slot-requires-clause-key : goal.free_slot-requires-clause-key
free_slot-requires-clause-key g c = c.requires.at.0.base.key

pub free_slot-requires-clause-of : goal.free_slot-requires-clause-of
free_slot-requires-clause-of g c = c.requires.at.0.base.below

pub free_slot-requires-clause-may : goal.free_slot-requires-clause-may
free_slot-requires-clause-may g c =
    may_free c.args.world.now c.args.host c.args.of c.args.dead.0 thrice
    (recovers c.args.world.now c.args.world.now c.args.host c.args.of c.args.dead (subst Consistent c.locks.ensures c.geometry-geometry.ensures.consistent) c.requires.at c.requires.other) c.requires.at.1

pub free_slot-requires-clause-unneeded : goal.free_slot-requires-clause-unneeded
free_slot-requires-clause-unneeded g c = swept_unneeded c.args.world.now c.args.host c.args.of c.args.dead.0 c.requires.at.1

pub returns-in-Ok-clause-came : goal.returns-in-Ok-clause-came
returns-in-Ok-clause-came g c =
    freed_came c.args.world.now c.free_slot.new.world c.args.host c.args.of c.args.dead (subst Consistent c.locks.ensures c.geometry-geometry.ensures.consistent) c.requires.at
    c.requires.other c.in-Ok.field-0 c.in-Ok.ensures.consistent c.in-Ok.ensures.others c.in-Ok.ensures.standing c.in-Ok.ensures.did
    c.in-Ok.ensures.freed

pub returns-in-Err-clause-others : goal.returns-in-Err-clause-others
returns-in-Err-clause-others g c =
    others_locks c.args.world.now c.free_slot.new.world c.args.host
    (subst Consistent c.locks.ensures c.geometry-geometry.ensures.consistent) c.in-Err.ensures.others c.in-Err.ensures.standing

pub returns-in-Err-clause-refused : goal.returns-in-Err-clause-refused
returns-in-Err-clause-refused g c =
    refused_by (Recover c.args.of) c.args.host c.args.world.now c.free_slot.new.world c.in-Err.why (λ n. Unit {0})
    c.requires.at.0.base.key (shut_out c.args.world.now c.free_slot.new.world c.args.host _ _ _ c.in-Err.why c.in-Err.ensures.did)
    (free_cut c.args.world.now c.free_slot.new.world c.args.host c.args.of c.args.dead.0 thrice c.in-Err.why
    (subst Consistent c.locks.ensures c.geometry-geometry.ensures.consistent) (recovers c.args.world.now c.free_slot.new.world c.args.host c.args.of c.args.dead (subst Consistent c.locks.ensures c.geometry-geometry.ensures.consistent) c.requires.at c.requires.other) c.requires.at.1
    (returns-in-Err-clause-others g c) c.in-Err.ensures.did (λ at is. c.in-Err.ensures.sound at (ap Err is)) (λ n. Unit {0}))

pub returns-in-Ok-clause-others : goal.returns-in-Ok-clause-others
returns-in-Ok-clause-others g c =
    others_locks c.args.world.now c.free_slot.new.world c.args.host
    (subst Consistent c.locks.ensures c.geometry-geometry.ensures.consistent) c.in-Ok.ensures.others c.in-Ok.ensures.standing
