use Rattle.plan_tests.proofs.WorldLaws.{taken_out}
use Rattle.plan_tests.proofs.transactions.create.Goals as goal

pub take-requires-clause-out : goal.take-requires-clause-out
take-requires-clause-out g c =
    taken_out c.args.world.now c.args.host c.args.group c.requires.taking c.requires.group
