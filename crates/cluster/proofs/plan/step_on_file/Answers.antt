use Rattle.cluster.specs.laws.FileSteps.{file_notes, file_step}
use Rattle.cluster.specs.laws.PendingLaws.{carried_is}
use Rattle.cluster.proofs.plan.step_on_file.Goals as goal

pub note-requires-clause-may : goal.note-requires-clause-may
note-requires-clause-may g c =
    rw (c.geometry.ensures.geometry, c.locks.ensures)
    (file_notes c.args.command.now c.args.world.now c.next.new.world c.args.cache.now c.next.new.cache c.args.carried.now c.args.plan.now
    c.next.new.self c.in-Ok.step c.requires.runs c.requires.at c.requires.noted c.in-Ok.ensures.step)

pub returns-in-Ok-clause-stepped : goal.returns-in-Ok-clause-stepped
returns-in-Ok-clause-stepped g c =
    file_step c.args.command.now c.args.world.now c.next.new.world c.args.cache.now c.next.new.cache c.args.carried.now c.args.plan.now
    c.next.new.self c.in-Ok.step c.requires.runs c.requires.at c.requires.noted c.next.ensures.others c.forget_slots.new.self
    (carried_is c.args.command.now c.in-Ok.step.next c.args.carried.now c.note.new.self c.forget_slots.new.self c.note.ensures
    c.forget_slots.ensures) c.in-Ok.ensures.step

pub returns-in-Err-clause-none : goal.returns-in-Err-clause-none
returns-in-Err-clause-none g c = c.in-Err.ensures.none c.args.command.now c.requires.runs

pub returns-in-Ok-clause-sooner : goal.returns-in-Ok-clause-sooner
returns-in-Ok-clause-sooner g c = c.in-Ok.ensures.sooner
