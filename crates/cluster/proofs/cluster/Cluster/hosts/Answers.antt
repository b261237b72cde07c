use Rattle.std.proofs.Common.{◌≡◌, ◌≤◌, ℕ, false, subst}
use Rattle.cluster.specs.Views.{ClusterView}
use Rattle.cluster.specs.Waits.{has_line}
use Rattle.cluster.specs.laws.MeasureLaws.{nobody_has}
use Rattle.cluster.proofs.cluster.Cluster.hosts.Goals as goal

pub returns-clause-nobody : goal.returns-clause-nobody
returns-clause-nobody g c =
    subst (λ (v : ClusterView). (h : ℕ) → c.hosts.result ≤ h → has_line v.parts h ≡ false) c.self.view_is
    (λ h past. nobody_has c.self.inside.parts c.self.invariant.inv.sound h (subst (λ (n : ℕ). n ≤ h) c.hosts.ensures past))
