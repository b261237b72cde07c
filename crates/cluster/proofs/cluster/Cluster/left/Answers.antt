use Rattle.std.proofs.Common.{◌≡◌, ◌↔◌, subst}
use Rattle.cluster.specs.Runs.{IsIdle}
use Rattle.cluster.specs.Views.{ClusterView}
use Rattle.cluster.proofs.cluster.Cluster.left.Goals as goal

pub returns-clause-none : goal.returns-clause-none
returns-clause-none g c =
    subst (λ (v : ClusterView). (v.budget.left ≡ 0) ↔ IsIdle v.parts) c.self.view_is c.self.invariant.measured.none
