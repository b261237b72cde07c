use Rattle.cluster.specs.laws.MeasureLaws.{tells_idle, tells_work}
use Rattle.cluster.specs.laws.ListLaws.{same_origin, seen_grow}
use Rattle.cluster.proofs.turns.ClusterTurns.turn.Goals as goal

pub returns-clause-began : goal.returns-clause-began
returns-clause-began g c = same_origin _ _ c.turn.ensures.same c.turn.ensures.phase

pub returns-clause-entries : goal.returns-clause-entries
returns-clause-entries g c = seen_grow _ _ c.turn.ensures.events

pub returns-clause-idle : goal.returns-clause-idle
returns-clause-idle g c = tells_idle _ c.args.host c.turn.result c.turn.ensures.tells

pub returns-clause-work : goal.returns-clause-work
returns-clause-work g c = tells_work c.args.self.now c.args.host c.turn.result c.turn.ensures.tells c.turn.ensures.ever
