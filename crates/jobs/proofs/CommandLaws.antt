-- How the program ends, by its words.
use Rattle.std.proofs.Common.{◌≡◌, ℕ, List, Option, inl, inr, sym, subst}
use Rattle.jobs.specs.declared.outcome.Outcome.TheVariants as outcomes
use Rattle.jobs.specs.declared.status.Status.{Status}
use Rattle.words.specs.declared.forms.Job.{Job}
use Rattle.jobs.specs.Commands.{IsUsageStatus, JobEnds, ProgramEnds, UsageEnds}
use Rattle.jobs.specs.Endings.{SinkSeen, IsTold}
use Rattle.jobs.specs.Seen.{Seen}
use Rattle.jobs.proofs.TellingLaws.{cut_of, written_of}

-- the words ask for this job
pub command_ends : (asked job : Option Job) (hosts : List ℕ) (before after : Seen) (status : Status) → asked ≡ job
    → JobEnds job hosts before after status → JobEnds asked hosts before after status
command_ends asked job hosts before after status is ends =
    let P : Option Job → Type 0 = λ which. JobEnds which hosts before after status in subst P (sym is) ends

pub program_ends : (asked job : Option Job) (hosts : List ℕ) (before after : Seen) (status : Status) → asked ≡ job
    → ProgramEnds job hosts before after status → ProgramEnds asked hosts before after status
program_ends asked job hosts before after status is ends =
    let P : Option Job → Type 0 = λ which. ProgramEnds which hosts before after status in subst P (sym is) ends

usage_among : (before after : SinkSeen) (status : Status) → IsTold before after outcomes.Usage status → IsUsageStatus status
usage_among before after status (inl written) = subst IsUsageStatus (sym written.ends) tt
usage_among before after status (inr (inl short)) = subst IsUsageStatus (sym short.ends) tt
usage_among before after status (inr (inr unwritten)) = subst IsUsageStatus (sym unwritten.ends) tt

-- words that are of no form
pub usage_ends : (before after : Seen) (status : Status) → after.source ≡ before.source → after.disk ≡ before.disk
    → IsTold before.sink after.sink outcomes.Usage status → UsageEnds before after status
usage_ends before after status source disk told = record {
  told = told;
  among = usage_among before.sink after.sink status told;
  usage = λ is. (written_of before.sink after.sink outcomes.Usage status (λ e. cc) (λ e. cc) told).text;
  write_fault = λ is. (cut_of before.sink after.sink outcomes.Usage status told is).cause;
  source = source;
  disk = disk;
}
