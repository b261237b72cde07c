use Rattle.jobs.proofs.CheckLaws.{check_ends}
use Rattle.jobs.proofs.checking.check.Goals as goal

pub returns : goal.returns
returns g c = record {
  ends = check_ends _ _ _ _ _
      (record { outcome = c.decide-outcome.result; decided = c.decide-outcome.ensures.decided; told = c.tell-status.ensures })
      c.decide-outcome.ensures.told c.decide-outcome.ensures.blocks c.decide-outcome.ensures.visits;
}
