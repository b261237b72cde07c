use Rattle.std.proofs.Common.{◌↔◌, IsTrue, subst}
use Rattle.cluster.specs.Runs.{IsIdle}
use Rattle.cluster.specs.Views.{ClusterView}
use Rattle.cluster.proofs.cluster.Cluster.idle.Goals as goal

pub returns : goal.returns
returns g c = subst (λ (v : ClusterView). IsTrue c.is_idle.result ↔ IsIdle v.parts) c.self.view_is c.is_idle.ensures
