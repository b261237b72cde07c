use Rattle.jobs.proofs.ReadingLaws.{stopped_long, takes_front, takes_whole}
use Rattle.jobs.proofs.reading.read_workload.Goals as goal

pub returns-in-Err-Long-clause-err : goal.returns-in-Err-Long-clause-err
returns-in-Err-Long-clause-err g c = rw c.refused.ensures (stopped_long _ _ _ c.in-Err-Long.field-0-is c.in-Err-Long.ensures.err)

pub returns-in-Err-Failed-clause-taken : goal.returns-in-Err-Failed-clause-taken
returns-in-Err-Failed-clause-taken g c = takes_front _ _ _ c.in-Err-Failed.ensures.err

pub returns-in-Err-Long-clause-taken : goal.returns-in-Err-Long-clause-taken
returns-in-Err-Long-clause-taken g c = takes_front _ _ _ c.in-Err-Long.ensures.err

pub returns-in-Err-NoMemory-clause-taken : goal.returns-in-Err-NoMemory-clause-taken
returns-in-Err-NoMemory-clause-taken g c = takes_front _ _ _ c.in-Err-NoMemory.ensures.err

pub returns-clause-taken : goal.returns-clause-taken
returns-clause-taken g c = takes_whole _ _ _ c.in-Ok.ensures.ok
