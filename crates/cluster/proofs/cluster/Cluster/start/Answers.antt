use Rattle.std.proofs.Common.{[], sym, subst}
use Rattle.shared_disk.specs.Seen.{seen_by}
use Rattle.cluster.specs.Runs.{Facts, Led}
use Rattle.cluster.specs.Starts.{HasStarted}
use Rattle.cluster.specs.Views.{ClusterView}
use Rattle.cluster.specs.laws.OpenedLaws.{has_started, refused_room}
use Rattle.cluster.proofs.cluster.Cluster.start.Goals as goal

pub returns-in-Err-clause-refused : goal.returns-in-Err-clause-refused
returns-in-Err-clause-refused g c = refused_room c.args.workload.geometry (seen_by g.D.Device c.args.disk)

pub returns-in-Ok-open-clause-started : goal.returns-in-Ok-open-clause-started
returns-in-Ok-open-clause-started g c =
    let old = seen_by g.D.Device c.args.disk in
    let opened = c.in-Ok-open.ensures in
    subst (HasStarted old c.args.workload) (sym c.begin.ensures.is)
    (has_started old (seen_by g.D.Device c.open.new.disk) c.args.workload c.in-Ok.room opened.opened opened.long
    (λ at. let no_keys = c.open.ensures.no_keys.1 at in let is = c.in-Ok-open.is in cc) opened.later opened.images opened.used opened.visited
    opened.blocks c.in-Ok.ensures (subst (λ (v : ClusterView). Led v []) c.begin.ensures.is c.begin.ensures.run)
    (subst Facts c.begin.ensures.is c.begin.ensures.facts))
