use Rattle.plan_tests.proofs.FileLaws.{one_ran, two_ran, zero_ran}
use Rattle.plan_tests.proofs.file_hosts.run.Goals as goal

pub returns-in-0-clause-cached : goal.returns-in-0-clause-cached
returns-in-0-clause-cached g c =
    zero_ran c.args.world.now _ _ _ _ _ c.run_one.ensures.others c.run_one.ensures.cached c.requires.cached

pub returns-in-1-clause-cached : goal.returns-in-1-clause-cached
returns-in-1-clause-cached g c =
    one_ran c.args.world.now _ _ _ _ _ c.run_one-in-1.ensures.others c.run_one-in-1.ensures.cached c.requires.cached

pub returns-in-2-clause-cached : goal.returns-in-2-clause-cached
returns-in-2-clause-cached g c =
    two_ran c.args.world.now _ _ _ _ _ c.run_one-in-2.ensures.others c.run_one-in-2.ensures.cached c.requires.cached
