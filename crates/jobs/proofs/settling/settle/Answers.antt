use Rattle.shared_disk.specs.Seen.{seen_by}
use Rattle.jobs.proofs.SettleLaws.{settle_ends}
use Rattle.jobs.proofs.settling.settle.Goals as goal

pub returns : goal.returns
returns g c = record {
  ends =
      settle_ends (seen_by g.D.Device c.args.disk) (seen_by g.D.Device c.decide-outcome.result.1) _ _ _
      (record { outcome = _; decided = c.decide-outcome.ensures.decided; told = c.tell-status.ensures }) c.decide-outcome.ensures.files
      c.decide-outcome.ensures.images;
}
