use Rattle.std.proofs.Common.{subst, sym}
use Rattle.std.specs.Prelude.{IfOk}
use Rattle.disk_locks.specs.Consistent.{Consistent}
use Rattle.merge_plan.specs.Plans.{PlanStands}
use Rattle.merge_plan.specs.Steps.{Went}
use Rattle.merge_plan.specs.declared.plan.Doing.{Doing}
use Rattle.merge_plan.specs.laws.DecideLaws.{decided_next, ok_decided}
use Rattle.merge_plan.proofs.next.steps.Goals as goal

pub calls-requires-clause-stands : goal.calls-requires-clause-stands
calls-requires-clause-stands g c =
    (decided_next c.args.world.now c.args.host c.in-Decides.shelf c.in-Decides.digest c.args.room.now c.decides-next.new.room c.decides-next.result
    c.decides-next.ensures (subst Consistent c.locks.ensures c.geometry-geometry.ensures.consistent)
    (subst (PlanStands c.args.world.now c.args.host c.args.room.now) c.in-Decides.is c.requires.stands)).stands

pub returns-in-Decides-clause-went : goal.returns-in-Decides-clause-went
returns-in-Decides-clause-went g c =
    subst (λ (d : Doing). IfOk c.calls.result (Went c.args.host c.args.world.now c.calls.new.world c.args.room.now c.calls.new.room d))
    (sym c.in-Decides.is)
    (ok_decided c.args.world.now c.args.host c.in-Decides.shelf c.in-Decides.digest c.args.room.now c.decides-next.new.room c.decides-next.result
    c.decides-next.ensures (subst Consistent c.locks.ensures c.geometry-geometry.ensures.consistent)
    (subst (PlanStands c.args.world.now c.args.host c.args.room.now) c.in-Decides.is c.requires.stands) c.calls.new.world c.calls.new.room
    c.calls.result c.calls.ensures.went)
