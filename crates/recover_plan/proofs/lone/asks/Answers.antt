use Rattle.std.proofs.Common.{ap, refl, subst}
use Rattle.std.specs.Prelude.{Err}
use Rattle.disk_locks.specs.Consistent.{Consistent}
use Rattle.lock_store.specs.declared.answers.StepNo.TheVariants as steps
use Rattle.plan_parts.specs.laws.TakenLaws.{others_locks}
use Rattle.shared_disk.specs.declared.answers.DiskNo.TheVariants as refusals
use Rattle.recover_plan.specs.laws.LoneLaws.{ask_refused, asked_came, spent_came}
use Rattle.recover_plan.specs.laws.RegisterLaws.{dropped_key}
use Rattle.recover_plan.proofs.lone.asks.Goals as goal

pub ask_key-requires-clause-none : goal.ask_key-requires-clause-none
ask_key-requires-clause-none g c = dropped_key c.args.world.now c.args.host c.requires.at.2

pub returns-in-Ok-clause-came : goal.returns-in-Ok-clause-came
returns-in-Ok-clause-came g c =
    asked_came c.args.world.now c.ask_key.new.world c.args.host c.args.of (subst Consistent c.locks.ensures c.geometry-geometry.ensures.consistent) c.in-Ok.ensures.consistent
    c.in-Ok.ensures.others c.in-Ok.ensures.standing c.requires.at c.in-Ok.field-0 c.in-Ok.ensures.did

pub returns-in-Err-NoKeys-clause-came : goal.returns-in-Err-NoKeys-clause-came
returns-in-Err-NoKeys-clause-came g c =
    spent_came c.args.world.now c.ask_key.new.world c.args.host c.args.of (subst Consistent c.locks.ensures c.geometry-geometry.ensures.consistent) c.in-Err-NoKeys.ensures.consistent
    c.in-Err-NoKeys.ensures.others c.in-Err-NoKeys.ensures.standing c.requires.at (rw c.in-Err-NoKeys.field-0-is at c.in-Err-NoKeys.ensures.did)

pub returns-in-Err-Failed-clause-refused : goal.returns-in-Err-Failed-clause-refused
returns-in-Err-Failed-clause-refused g c =
    ask_refused c.args.world.now c.ask_key.new.world c.args.host c.args.of (subst Consistent c.locks.ensures c.geometry-geometry.ensures.consistent) c.in-Err-Failed.ensures.consistent
    c.in-Err-Failed.ensures.others c.in-Err-Failed.ensures.standing c.requires.at refusals.Failed steps.Failed (λ e. cc) refl
    (rw c.in-Err-Failed.field-0-is at c.in-Err-Failed.ensures.did)

pub returns-in-Err-NoMemory-clause-refused : goal.returns-in-Err-NoMemory-clause-refused
returns-in-Err-NoMemory-clause-refused g c =
    ask_refused c.args.world.now c.ask_key.new.world c.args.host c.args.of (subst Consistent c.locks.ensures c.geometry-geometry.ensures.consistent) c.in-Err-NoMemory.ensures.consistent
    c.in-Err-NoMemory.ensures.others c.in-Err-NoMemory.ensures.standing c.requires.at refusals.NoMemory steps.NoMemory (λ e. cc) refl
    (rw c.in-Err-NoMemory.field-0-is at c.in-Err-NoMemory.ensures.did)

pub returns-in-Err-Fenced-clause-refused : goal.returns-in-Err-Fenced-clause-refused
returns-in-Err-Fenced-clause-refused g c = absurd (c.in-Err-Fenced.ensures.fenced (ap Err c.in-Err-Fenced.field-0-is))

pub returns-in-Ok-clause-others : goal.returns-in-Ok-clause-others
returns-in-Ok-clause-others g c =
    others_locks c.args.world.now c.ask_key.new.world c.args.host
    (subst Consistent c.locks.ensures c.geometry-geometry.ensures.consistent) c.in-Ok.ensures.others c.in-Ok.ensures.standing

pub returns-in-Err-NoKeys-clause-others : goal.returns-in-Err-NoKeys-clause-others
returns-in-Err-NoKeys-clause-others g c =
    others_locks c.args.world.now c.ask_key.new.world c.args.host
    (subst Consistent c.locks.ensures c.geometry-geometry.ensures.consistent) c.in-Err-NoKeys.ensures.others c.in-Err-NoKeys.ensures.standing

pub returns-in-Err-Failed-clause-others : goal.returns-in-Err-Failed-clause-others
returns-in-Err-Failed-clause-others g c =
    others_locks c.args.world.now c.ask_key.new.world c.args.host
    (subst Consistent c.locks.ensures c.geometry-geometry.ensures.consistent) c.in-Err-Failed.ensures.others c.in-Err-Failed.ensures.standing

pub returns-in-Err-NoMemory-clause-others : goal.returns-in-Err-NoMemory-clause-others
returns-in-Err-NoMemory-clause-others g c =
    others_locks c.args.world.now c.ask_key.new.world c.args.host
    (subst Consistent c.locks.ensures c.geometry-geometry.ensures.consistent) c.in-Err-NoMemory.ensures.others c.in-Err-NoMemory.ensures.standing

pub returns-in-Err-Fenced-clause-others : goal.returns-in-Err-Fenced-clause-others
returns-in-Err-Fenced-clause-others g c =
    others_locks c.args.world.now c.ask_key.new.world c.args.host
    (subst Consistent c.locks.ensures c.geometry-geometry.ensures.consistent) c.in-Err-Fenced.ensures.others c.in-Err-Fenced.ensures.standing
