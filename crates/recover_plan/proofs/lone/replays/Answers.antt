use Rattle.std.proofs.Common.{sym, ◌==◌}
use Rattle.std.proofs.lemmas.Bool.{eqb-false, eqb-true}
use Rattle.recover_plan.specs.laws.LoneEnds.{more_came, ready_came, slot_came, step_refused}
use Rattle.recover_plan.proofs.lone.replays.Goals as goal

pub step-went-requires : goal.step-went-requires
step-went-requires g c = record { stands = c.requires.at.stands }

pub returns-in-Ok-More-clause-came : goal.returns-in-Ok-More-clause-came
returns-in-Ok-More-clause-came g c =
    rw c.on.ensures
    (more_came c.args.world.now c.step-went.new.world c.args.host c.args.of c.args.again c.args.stage c.requires.at c.in-Ok-More.ensures.others
    c.in-Ok-More.next (rw c.in-Ok-More.field-0-is at c.in-Ok-More.ensures.went))

pub returns-in-Ok-Ready-clause-came : goal.returns-in-Ok-Ready-clause-came
returns-in-Ok-Ready-clause-came g c =
    ready_came c.args.world.now c.step-went.new.world c.args.host c.args.of c.args.again c.args.stage c.requires.at
    c.in-Ok-Ready.ensures.others c.in-Ok-Ready.dead (rw c.in-Ok-Ready.field-0-is at c.in-Ok-Ready.ensures.went)

pub returns-in-Ok-Found-clause-came : goal.returns-in-Ok-Found-clause-came
returns-in-Ok-Found-clause-came g c =
    rw c.found_by.ensures
    (slot_came c.args.world.now c.step-went.new.world c.args.host c.args.of c.args.again c.args.stage c.requires.at c.in-Ok-Found.ensures.others
    c.in-Ok-Found.from c.in-Ok-Found.slot (rw c.in-Ok-Found.field-0-is at c.in-Ok-Found.ensures.went) (c.args.host == c.args.of)
    c.is_same_live-same.result (λ own. sym (eqb-true c.args.host c.args.of own))
    (λ other own. eqb-false c.args.host c.args.of other (sym own)) (λ live. c.is_same_live-same.ensures.0 live))

pub returns-in-Err-clause-refused : goal.returns-in-Err-clause-refused
returns-in-Err-clause-refused g c =
    step_refused c.args.world.now c.step-went.new.world c.args.host c.args.of c.args.again c.args.stage c.requires.at c.in-Err.ensures.others
    c.in-Err.why c.in-Err.ensures.cut
