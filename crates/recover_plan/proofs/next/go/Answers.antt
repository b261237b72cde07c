use Rattle.std.proofs.Common.{refl, subst}
use Rattle.vol_base.specs.declared.answer.CutBy.TheVariants as cuts
use Rattle.lock_store.specs.declared.answers.StepNo.TheVariants as steps
use Rattle.disk_locks.specs.Consistent.{Consistent}
use Rattle.plan_parts.specs.laws.CutCallLaws.{cut_untouched}
use Rattle.recover_plan.specs.Plans.{Agrees, command_of}
use Rattle.recover_plan.specs.laws.NextLaws.{stopped_came}
use Rattle.recover_plan.proofs.next.go.Goals as goal

pub returns-in-Err-NoMemory-clause-none : goal.returns-in-Err-NoMemory-clause-none
returns-in-Err-NoMemory-clause-none g c =
    cut_untouched (command_of c.args.doing) c.args.host c.args.world.now c.call.new.world
    (Agrees c.args.host c.args.world.now c.args.watch.now c.args.doing)
    (rw c.in-Err-NoMemory.field-0-is at c.in-Err-NoMemory.ensures.cut)

pub returns-in-Err-NoMemory-clause-later : goal.returns-in-Err-NoMemory-clause-later
returns-in-Err-NoMemory-clause-later g c = c.in-Err-NoMemory.ensures.cut.1.acts.later

pub returns-in-Err-Fenced-clause-came : goal.returns-in-Err-Fenced-clause-came
returns-in-Err-Fenced-clause-came g c =
    rw (c.cut.ensures.come, c.cut.ensures.watch)
    (stopped_came c.args.world.now c.args.host c.args.watch.now (subst Consistent c.locks.ensures c.geometry-geometry.ensures.consistent)
    c.call.new.world c.args.doing steps.Fenced cuts.Fenced c.requires.stands (rw c.in-Err-Fenced.field-0-is at c.in-Err-Fenced.ensures.stop) refl
    (rw c.in-Err-Fenced.field-0-is at c.in-Err-Fenced.ensures.cut))

pub returns-in-Err-Failed-clause-came : goal.returns-in-Err-Failed-clause-came
returns-in-Err-Failed-clause-came g c =
    rw (c.cut-in-Err-Failed.ensures.come, c.cut-in-Err-Failed.ensures.watch)
    (stopped_came c.args.world.now c.args.host c.args.watch.now (subst Consistent c.locks.ensures c.geometry-geometry.ensures.consistent)
    c.call.new.world c.args.doing steps.Failed cuts.Fault c.requires.stands (rw c.in-Err-Failed.field-0-is at c.in-Err-Failed.ensures.stop) refl
    (rw c.in-Err-Failed.field-0-is at c.in-Err-Failed.ensures.cut))

pub returns-in-Err-Bad-clause-came : goal.returns-in-Err-Bad-clause-came
returns-in-Err-Bad-clause-came g c =
    rw (c.cut-in-Err-Bad.ensures.come, c.cut-in-Err-Bad.ensures.watch)
    (stopped_came c.args.world.now c.args.host c.args.watch.now (subst Consistent c.locks.ensures c.geometry-geometry.ensures.consistent)
    c.call.new.world c.args.doing (steps.Bad c.in-Err-Bad.place) (cuts.Bad c.in-Err-Bad.place) c.requires.stands (rw c.in-Err-Bad.field-0-is at c.in-Err-Bad.ensures.stop) refl
    (rw c.in-Err-Bad.field-0-is at c.in-Err-Bad.ensures.cut))
