use Rattle.std.proofs.Common.{subst}
use Rattle.disk_locks.specs.Consistent.{Consistent}
use Rattle.recover_plan.specs.laws.RecoverSteps.{recover_came, recover_cut}
use Rattle.recover_plan.proofs.recover.recovers.Goals as goal

pub returns-in-Ok-clause-came : goal.returns-in-Ok-clause-came
returns-in-Ok-clause-came g c =
    recover_came c.args.world.now c.step-went.new.world c.args.host c.args.of c.args.watch.now c.args.again c.args.stage
    (subst Consistent c.locks.ensures c.geometry-geometry.ensures.consistent)
    (subst Consistent c.locks-2.ensures c.geometry-later.ensures.consistent) c.requires.stands c.in-Ok.ensures.others c.in-Ok.going
    c.behind.new.watch c.behind.result c.in-Ok.ensures.went c.behind.ensures

pub returns-in-Err-clause-cut : goal.returns-in-Err-clause-cut
returns-in-Err-clause-cut g c =
    recover_cut c.args.world.now c.step-went.new.world c.args.host c.args.of c.args.watch.now c.args.again c.args.stage c.in-Err.why
    c.in-Err.ensures.cut
