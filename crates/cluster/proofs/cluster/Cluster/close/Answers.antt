use Rattle.std.proofs.Common.{subst}
use Rattle.cluster.specs.Runs.{Facts}
use Rattle.cluster.specs.laws.InvLaws.{facts_of}
use Rattle.cluster.proofs.cluster.Cluster.close.Goals as goal

pub returns-clause-facts : goal.returns-clause-facts
returns-clause-facts g c = subst Facts c.self.view_is (facts_of _ c.self.invariant.inv)
