use Rattle.plan_tests.proofs.WorldLaws.{none_taken}
use Rattle.plan_tests.proofs.ready.takes_none.Goals as goal

pub returns : goal.returns
returns g c asked =
    none_taken c.args.world.now c.args.host c.locks.result.now c.host.result.now c.locks.ensures c.host.ensures
    (c.has_none.ensures asked)
