use Rattle.jobs.proofs.GenLaws.{gen_ends}
use Rattle.jobs.proofs.generating.generate.Goals as goal

pub returns : goal.returns
returns g c = record {
  ends = gen_ends c.args.rounds _ _ _
      (record { outcome = c.decide-outcome.result; decided = c.decide-outcome.ensures.decided; told = c.tell.ensures });
}
