use Rattle.cluster.specs.laws.MeasureLaws.{none_have}
use Rattle.cluster.proofs.turns.ClusterTurns.left.Goals as goal

pub returns-clause-none : goal.returns-clause-none
returns-clause-none g c = none_have c.args.self.now.parts c.args.self.now.budget.left c.left.ensures.none
