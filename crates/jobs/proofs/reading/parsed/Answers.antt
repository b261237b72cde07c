use Rattle.jobs.proofs.ReadingLaws.{all_known}
use Rattle.jobs.proofs.reading.parsed.Goals as goal

pub returns-in-Ok-clause-known : goal.returns-in-Ok-clause-known
returns-in-Ok-clause-known c =
    all_known c.in-Ok.workload.geometry c.in-Ok.workload.lines c.in-Ok.ensures.in_range.lines
