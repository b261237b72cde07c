use Rattle.recover_plan.specs.laws.FenceLaws.{fence_by_cut, fence_by_went}
use Rattle.recover_plan.proofs.replay.fence_by.Goals as goal

pub returns-in-Ok-clause-went : goal.returns-in-Ok-clause-went
returns-in-Ok-clause-went g c =
    fence_by_went c.args.world.now c.take_off.new.world c.args.host c.args.of c.in-Ok.ensures.was c.in-Ok.ensures.is
    c.in-Ok.ensures.others c.in-Ok.ensures.standing c.by.result c.in-Ok.ensures.did c.args.slot c.requires.seen c.requires.by
    c.requires.off c.by.ensures

pub returns-in-Err-clause-cut : goal.returns-in-Err-clause-cut
returns-in-Err-clause-cut g c =
    fence_by_cut c.args.world.now c.take_off.new.world c.args.host c.args.of c.in-Err.ensures.was c.in-Err.ensures.is
    c.in-Err.ensures.others c.in-Err.ensures.standing c.by.result c.args.slot c.in-Err.why c.by.ensures c.in-Err.ensures.did
