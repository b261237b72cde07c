use Rattle.jobs.proofs.SimLaws.{sim_ends}
use Rattle.jobs.proofs.simulating.sim.Goals as goal

pub returns : goal.returns
returns g c = record {
  ends = sim_ends _ _ _ _
      (record { outcome = c.decide-outcome.result.0; decided = c.decide-outcome.ensures.decided; told = c.tell-status.ensures })
      c.decide-outcome.ensures.blocks c.decide-outcome.ensures.taken;
}
