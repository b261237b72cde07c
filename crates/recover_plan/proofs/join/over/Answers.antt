use Rattle.std.proofs.Common.{inl, refl, subst, sym}
use Rattle.vol_base.specs.declared.command.Command.TheVariants.{Join}
use Rattle.disk_locks.specs.Consistent.{Consistent}
use Rattle.recover_plan.specs.Joins.{IsLeftBy}
use Rattle.recover_plan.specs.Plans.{Came}
use Rattle.recover_plan.specs.declared.plan.Come.{Come}
use Rattle.recover_plan.specs.declared.plan.Doing.TheVariants.{Over}
use Rattle.recover_plan.specs.laws.JoinFinds.{others_left}
use Rattle.recover_plan.specs.laws.JoinOver.{over_found_came, over_more_came, over_ready_came}
use Rattle.recover_plan.proofs.join.over.Goals as goal

pub returns-in-Ok-More-clause-came : goal.returns-in-Ok-More-clause-came
returns-in-Ok-More-clause-came g c =
    over_more_came c.args.world.now c.step-went.new.world c.args.host c.args.watch.now c.args.stage c.in-Ok-More.next
    (subst Consistent c.locks.ensures c.geometry-geometry.ensures.consistent) c.requires.stands c.in-Ok-More.ensures.others
    (rw c.in-Ok-More.field-0-is at c.in-Ok-More.ensures.went)

pub returns-in-Ok-Ready-clause-came : goal.returns-in-Ok-Ready-clause-came
returns-in-Ok-Ready-clause-came g c =
    over_ready_came c.args.world.now c.step-went.new.world c.args.host c.args.watch.now c.args.stage c.in-Ok-Ready.dead
    (subst Consistent c.locks.ensures c.geometry-geometry.ensures.consistent) c.requires.stands c.in-Ok-Ready.ensures.others
    (rw c.in-Ok-Ready.field-0-is at c.in-Ok-Ready.ensures.went)

pub returns-in-Ok-Found-clause-came : goal.returns-in-Ok-Found-clause-came
returns-in-Ok-Found-clause-came g c =
    subst (λ (x : Come). Came c.args.host c.args.world.now c.found.new.world c.args.watch.now c.found.new.watch (Over c.args.stage) x)
    (sym c.found.ensures.come)
    (over_found_came c.args.world.now c.step-went.new.world c.found.new.world c.args.host c.args.watch.now c.found.new.watch c.args.stage
    c.in-Ok-Found.field-0-0 c.in-Ok-Found.slot (subst Consistent c.locks.ensures c.geometry-geometry.ensures.consistent)
    (subst Consistent c.locks-2.ensures c.geometry-later.ensures.consistent) c.requires.stands c.in-Ok-Found.ensures.others
    (rw c.in-Ok-Found.field-0-is at c.in-Ok-Found.ensures.went)
    (subst (λ (x : Come). IsLeftBy c.args.host c.step-went.new.world c.found.new.world c.args.watch.now c.found.new.watch x)
    c.found.ensures.come c.found.ensures.left))

pub returns-in-Ok-Found-clause-others : goal.returns-in-Ok-Found-clause-others
returns-in-Ok-Found-clause-others g c =
    others_left c.args.world.now c.step-went.new.world c.found.new.world c.args.host c.args.watch.now c.found.new.watch c.found.result
    (subst Consistent c.locks.ensures c.geometry-geometry.ensures.consistent)
    (subst Consistent c.locks-2.ensures c.geometry-later.ensures.consistent) c.in-Ok-Found.ensures.others c.found.ensures.left

pub returns-in-Err-clause-cut : goal.returns-in-Err-clause-cut
returns-in-Err-clause-cut g c = c.in-Err.ensures.cut.cuts Join c.args.watch.now 1 (inl (refl, refl))
