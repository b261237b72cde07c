use Rattle.std.proofs.Common.{ap, subst, sym}
use Rattle.std.specs.Prelude.{Err}
use Rattle.slot_lock_blocks.specs.declared.slot.Slot.TheVariants.{Free}
use Rattle.disk_locks.specs.Consistent.{Consistent}
use Rattle.plan_parts.specs.laws.TakenLaws.{others_locks}
use Rattle.recover_plan.specs.Joins.{IsLeftBy, entering}
use Rattle.recover_plan.specs.Plans.{Came}
use Rattle.recover_plan.specs.declared.plan.Come.{Come}
use Rattle.recover_plan.specs.laws.JoinFinds.{others_left}
use Rattle.recover_plan.specs.laws.JoinSteps.{entering_at, entry_came, entry_cut, entry_found_came}
use Rattle.recover_plan.proofs.join.enter.Goals as goal

pub returns-in-Ok-Claimed-clause-came : goal.returns-in-Ok-Claimed-clause-came
returns-in-Ok-Claimed-clause-came g c =
    rw c.new.ensures (entry_came c.args.world.now c.set_live.new.world c.args.host c.args.watch.now c.args.again c.key-own.result
    (subst Consistent c.locks.ensures c.geometry-geometry.ensures.consistent) c.in-Ok-Claimed.ensures.consistent
    c.requires.stands c.in-Ok-Claimed.ensures.others c.in-Ok-Claimed.ensures.standing c.key-own.ensures
    (rw c.in-Ok-Claimed.field-0-is at c.in-Ok-Claimed.ensures.did))

pub returns-in-Ok-Found-clause-came : goal.returns-in-Ok-Found-clause-came
returns-in-Ok-Found-clause-came g c =
    subst (λ (x : Come). Came c.args.host c.args.world.now c.found.new.world c.args.watch.now c.found.new.watch (entering c.args.again) x)
    (sym c.found.ensures.come)
    (entry_found_came c.args.world.now c.set_live.new.world c.found.new.world c.args.host c.args.watch.now c.found.new.watch c.args.again
    c.in-Ok-Found.slot (subst Consistent c.locks.ensures c.geometry-geometry.ensures.consistent) c.in-Ok-Found.ensures.consistent
    c.requires.stands c.requires.host c.in-Ok-Found.ensures.others c.in-Ok-Found.ensures.standing
    (rw c.in-Ok-Found.field-0-is at c.in-Ok-Found.ensures.did)
    (subst (λ (x : Come). IsLeftBy c.args.host c.set_live.new.world c.found.new.world c.args.watch.now c.found.new.watch x)
    c.found.ensures.come c.found.ensures.left))

pub returns-in-Ok-Claimed-clause-others : goal.returns-in-Ok-Claimed-clause-others
returns-in-Ok-Claimed-clause-others g c =
    others_locks c.args.world.now c.set_live.new.world c.args.host
    (subst Consistent c.locks.ensures c.geometry-geometry.ensures.consistent) c.in-Ok-Claimed.ensures.others
    c.in-Ok-Claimed.ensures.standing

pub returns-in-Ok-Found-clause-others : goal.returns-in-Ok-Found-clause-others
returns-in-Ok-Found-clause-others g c =
    others_left c.args.world.now c.set_live.new.world c.found.new.world c.args.host c.args.watch.now c.found.new.watch c.found.result
    (subst Consistent c.locks.ensures c.geometry-geometry.ensures.consistent) c.in-Ok-Found.ensures.consistent
    (others_locks c.args.world.now c.set_live.new.world c.args.host
    (subst Consistent c.locks.ensures c.geometry-geometry.ensures.consistent) c.in-Ok-Found.ensures.others
    c.in-Ok-Found.ensures.standing) c.found.ensures.left

pub returns-in-Err-clause-others : goal.returns-in-Err-clause-others
returns-in-Err-clause-others g c =
    others_locks c.args.world.now c.set_live.new.world c.args.host
    (subst Consistent c.locks.ensures c.geometry-geometry.ensures.consistent) c.in-Err.ensures.others c.in-Err.ensures.standing

pub returns-in-Err-clause-cut : goal.returns-in-Err-clause-cut
returns-in-Err-clause-cut g c =
    entry_cut c.args.world.now c.set_live.new.world c.args.host Free c.in-Err.why _
    (subst Consistent c.locks.ensures c.geometry-geometry.ensures.consistent)
    (entering_at c.args.world.now c.args.host c.args.watch.now c.args.again c.requires.stands).base (returns-in-Err-clause-others g c)
    c.in-Err.ensures.did (λ at is. c.in-Err.ensures.sound at (ap Err is))
