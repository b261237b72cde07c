use Rattle.recover_plan.specs.laws.JoinFinds.{others_dropped}
use Rattle.recover_plan.specs.laws.LeaveLaws.{fence_came, own_fence_cut}
use Rattle.recover_plan.proofs.leave.fence_own.Goals as goal

pub returns-in-Ok-clause-came : goal.returns-in-Ok-clause-came
returns-in-Ok-clause-came g c =
    rw c.new.ensures (fence_came c.args.world.now c.take_off.new.world c.forget.new.world c.args.host c.args.watch.now c.key-own.result
    c.in-Ok.ensures.was c.in-Ok.ensures.is c.requires.stands c.key-own.ensures c.in-Ok.ensures.others c.in-Ok.ensures.standing
    c.in-Ok.field-0 c.in-Ok.ensures.did c.forget.ensures)

pub returns-in-Ok-clause-others : goal.returns-in-Ok-clause-others
returns-in-Ok-clause-others g c =
    others_dropped c.args.world.now c.take_off.new.world c.forget.new.world c.args.host c.in-Ok.ensures.was c.in-Ok.ensures.is
    c.in-Ok.ensures.others c.forget.ensures

pub returns-in-Err-clause-cut : goal.returns-in-Err-clause-cut
returns-in-Err-clause-cut g c =
    own_fence_cut c.args.world.now c.take_off.new.world c.args.host c.args.watch.now c.key-own.result c.in-Err.why c.key-own.ensures
    c.in-Err.ensures.others c.in-Err.ensures.did
