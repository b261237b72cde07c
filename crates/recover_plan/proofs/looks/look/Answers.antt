use Rattle.std.proofs.Common.{ap, subst}
use Rattle.std.specs.Prelude.{Err}
use Rattle.vol_base.specs.declared.command.Command.TheVariants.{Look}
use Rattle.vol_layout.specs.declared.kind.Kind.TheVariants as kinds
use Rattle.disk_locks.specs.Consistent.{Consistent}
use Rattle.plan_parts.specs.laws.CutCallLaws.{cut_read}
use Rattle.plan_parts.specs.laws.TakenLaws.{others_locks}
use Rattle.recover_plan.specs.PlanSteps.{OpenNoted, RestsWith}
use Rattle.recover_plan.specs.laws.LookLaws.{look_owes, look_tables, look_watched}
use Rattle.recover_plan.specs.laws.StepLaws.{ready_key}
use Rattle.recover_plan.proofs.looks.look.Goals as goal

pub read-requires-clause-key : goal.read-requires-clause-key
read-requires-clause-key g c =
    ready_key c.args.world.now c.args.host (subst Consistent c.locks.ensures c.geometry-geometry.ensures.consistent) c.requires.ready

pub returns-in-Ok-clause-owes : goal.returns-in-Ok-clause-owes
returns-in-Ok-clause-owes g c =
    let v = c.args.world.now in
    let w = c.read.new.world in
    let before = OpenNoted (Look c.args.of) c.args.host v c.args.watch.now in
    let after = RestsWith c.args.host w c.look.new.self in
    rw (c.answer.ensures, c.look.ensures.count)
    (look_owes v w c.args.host (subst Consistent c.locks.ensures c.geometry-geometry.ensures.consistent) c.in-Ok.ensures.consistent
    c.requires.host c.requires.ready c.in-Ok.ensures.others c.in-Ok.ensures.standing c.args.watch.now c.args.of c.in-Ok.slot c.requires.of
    c.in-Ok.ensures.did c.look.new.self c.look.ensures.look c.look.ensures.others)

pub returns-in-Ok-clause-watched : goal.returns-in-Ok-clause-watched
returns-in-Ok-clause-watched g c =
    look_watched c.args.world.now c.read.new.world c.args.host
    (subst Consistent c.locks.ensures c.geometry-geometry.ensures.consistent) c.in-Ok.ensures.consistent c.requires.host c.requires.ready
    c.in-Ok.ensures.others c.in-Ok.ensures.standing c.args.watch.now c.args.of c.in-Ok.slot c.requires.of c.in-Ok.ensures.did
    c.look.new.self c.look.ensures.look c.look.ensures.others c.requires.watched

pub returns-in-Ok-clause-tables : goal.returns-in-Ok-clause-tables
returns-in-Ok-clause-tables g c =
    look_tables c.args.world.now c.read.new.world c.args.host
    (subst Consistent c.locks.ensures c.geometry-geometry.ensures.consistent) c.in-Ok.ensures.consistent c.requires.host c.requires.ready
    c.in-Ok.ensures.others c.in-Ok.ensures.standing c.args.watch.now c.args.of c.in-Ok.slot c.requires.of c.in-Ok.ensures.did
    c.look.new.self c.look.ensures.look c.look.ensures.others

pub returns-in-Ok-clause-others : goal.returns-in-Ok-clause-others
returns-in-Ok-clause-others g c =
    others_locks c.args.world.now c.read.new.world c.args.host
    (subst Consistent c.locks.ensures c.geometry-geometry.ensures.consistent) c.in-Ok.ensures.others c.in-Ok.ensures.standing

pub returns-in-Err-clause-others : goal.returns-in-Err-clause-others
returns-in-Err-clause-others g c =
    others_locks c.args.world.now c.read.new.world c.args.host
    (subst Consistent c.locks.ensures c.geometry-geometry.ensures.consistent) c.in-Err.ensures.others c.in-Err.ensures.standing

pub returns-in-Err-clause-cut : goal.returns-in-Err-clause-cut
returns-in-Err-clause-cut g c =
    cut_read c.args.world.now c.read.new.world c.args.host (kinds.Slot c.args.of) _ c.in-Err.why (returns-in-Err-clause-others g c)
    c.in-Err.ensures.did (λ at is. c.in-Err.ensures.sound at (ap Err is))
