use Rattle.std.proofs.Common.{ap, map}
use Rattle.cluster.specs.Origins.{seen_event}
use Rattle.cluster.specs.Views.{LedgerView}
use Rattle.cluster.specs.laws.ListLaws.{same_origin}
use Rattle.cluster.proofs.turns.ClusterTurns.supply.Goals as goal

pub returns-clause-began : goal.returns-clause-began
returns-clause-began g c = same_origin _ _ c.supply.ensures.same c.supply.ensures.phase

pub returns-clause-entries : goal.returns-clause-entries
returns-clause-entries g c = ap (λ (l : LedgerView). map seen_event l.events) c.supply.ensures.lists
