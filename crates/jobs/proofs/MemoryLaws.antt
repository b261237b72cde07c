-- There was no memory for the line of the words: nothing was touched, whatever job they ask for.
use Rattle.std.proofs.Common.{◌≡◌, ℕ, List, [], Option, Some, None, inl, inr, refl, sym, subst, arith}
use Rattle.std.specs.Io.KnownBytes.{Consumes}
use Rattle.std.specs.Prelude.{Err, IfSome}
use Rattle.settle.specs.laws.PassLaws.{passes_same}
use Rattle.shared_disk.specs.Seen.{DiskSeen}
use Rattle.workload.specs.Grammar.{most_bytes}
use Rattle.words.specs.Lines.{Asks, IsLineOf}
use Rattle.words.specs.Words.{hosts_of, job_of}
use Rattle.words.specs.declared.forms.Job.{Job}
use Rattle.words.specs.declared.forms.Job.TheVariants.{Sim, Run, Check, Settle, Gen}
use Rattle.words.specs.declared.line.Line.{Line}
use Rattle.words.specs.declared.line.LineNo.{LineNo}
use Rattle.words.specs.declared.line.LineNo.TheVariants as refusals
use Rattle.jobs.specs.declared.outcome.Outcome.{Outcome}
use Rattle.jobs.specs.declared.outcome.Outcome.TheVariants as outcomes
use Rattle.jobs.specs.declared.status.Status.{Status}
use Rattle.jobs.specs.declared.status.Status.TheVariants as statuses
use Rattle.jobs.specs.Commands.{CheckEnds, IsRefused, JobEnds, ProgramEnds, UsageEnds}
use Rattle.jobs.specs.Endings.{Ends, IsTold, SinkSeen}
use Rattle.jobs.specs.Generations.{GenEnds}
use Rattle.jobs.specs.Runs.{ByThreads, ByWords, Schedule}
use Rattle.jobs.specs.Seen.{Seen, seen}
use Rattle.jobs.specs.Settlings.{SettleEnds}
use Rattle.jobs.specs.Simulations.{IsExact, SimEnds}
use Rattle.jobs.specs.Sources.{SourceSeen, TakesAtMost}
use Rattle.jobs.proofs.CommandLaws.{usage_ends}
use Rattle.jobs.proofs.SettleLaws.{told_still}
use Rattle.jobs.proofs.SimLaws.{takes_nothing}

abbrev IsMemory : Status → Type 0
IsMemory statuses.Memory = Unit {0}
IsMemory status = ⊥

-- no other status is that of want of memory
none_other : (status : Status) → statuses.Memory ≡ status → IsMemory status
none_other status e = subst IsMemory e tt

untold : (sink : SinkSeen) (outcome : Outcome) → IsTold sink sink outcome statuses.Memory
untold sink outcome = inr (inr (record { ends = refl; same = refl }))

undecided : (Decided : Outcome → Type 0) (sink : SinkSeen) → Decided outcomes.Memory → Ends Decided sink sink statuses.Memory
undecided Decided sink free = record { outcome = outcomes.Memory; decided = free; told = untold sink outcomes.Memory }

consumes_nothing : (left : Option (List ℕ)) → Consumes left left []
consumes_nothing None = tt
consumes_nothing (Some bytes) = refl

sim_memory : (schedule : Schedule) (at : Seen) → SimEnds schedule at at statuses.Memory
sim_memory schedule at = record {
  cause = takes_nothing at.sink.taken;
  taken = record { front = []; taken = consumes_nothing at.source.left; bounded = omega arith };
  images = inl refl;
  blocks = refl;
  exact = record { text = λ refusal gives. inr tt; volume = λ w gives refusable. inr tt; geometry = λ w given found gives unfit. inr tt };
  complete = λ ready quiet smooth. inr refl;
}

check_memory : (at : Seen) → CheckEnds at.disk at.disk at.sink at.sink statuses.Memory
check_memory at = record {
  ends = undecided _ at.sink tt;
  among = tt;
  ok = λ e. absurd (none_other statuses.Ok e);
  volume = λ e. absurd (none_other statuses.Volume e);
  disk_fault = λ e. absurd (none_other statuses.DiskFault e);
  write_fault = λ e. absurd (none_other statuses.WriteFault e);
  told = refl;
  blocks = refl;
  visits = inl (inl refl);
  complete = λ ready smooth. inr refl;
}

settle_memory : (at : Seen) → SettleEnds at.disk at.disk at.sink at.sink statuses.Memory
settle_memory at = record {
  ends = undecided _ at.sink tt;
  among = tt;
  ok = λ e. absurd (none_other statuses.Ok e);
  volume = λ e. absurd (none_other statuses.Volume e);
  disk_fault = λ e. absurd (none_other statuses.DiskFault e);
  write_fault = λ e. absurd (none_other statuses.WriteFault e);
  files = told_still at.disk.state.told at.disk.state.told refl;
  images = passes_same at.disk.state.counter at.disk.state.counter at.disk.state.told (omega arith);
  complete = λ ready smooth. inr refl;
}

gen_memory : (rounds : ℕ) (sink : SinkSeen) → GenEnds rounds sink sink statuses.Memory
gen_memory rounds sink = record {
  ends = undecided _ sink tt;
  among = tt;
  ok = λ e. absurd (none_other statuses.Ok e);
  write_fault = λ e. absurd (none_other statuses.WriteFault e);
  complete = λ serves. inr refl;
}

usage_memory : (at : Seen) → UsageEnds at at statuses.Memory
usage_memory at = usage_ends at at statuses.Memory refl refl (untold at.sink outcomes.Usage)

job_memory : (asked : Option Job) (hosts : List ℕ) (at : Seen) → JobEnds asked hosts at at statuses.Memory
job_memory None hosts at = usage_memory at
job_memory (Some Sim) hosts at = sim_memory (ByWords hosts) at
job_memory (Some Run) hosts at = usage_memory at
job_memory (Some Check) hosts at = record { source = refl; check = check_memory at }
job_memory (Some Settle) hosts at = record { source = refl; settle = settle_memory at }
job_memory (Some (Gen rounds)) hosts at = record { source = refl; disk = refl; gen = gen_memory rounds at.sink }

program_memory : (asked : Option Job) (hosts : List ℕ) (at : Seen) → ProgramEnds asked hosts at at statuses.Memory
program_memory None hosts at = job_memory None hosts at
program_memory (Some Sim) hosts at = job_memory (Some Sim) hosts at
program_memory (Some Run) hosts at = sim_memory ByThreads at
program_memory (Some Check) hosts at = job_memory (Some Check) hosts at
program_memory (Some Settle) hosts at = job_memory (Some Settle) hosts at
program_memory (Some (Gen rounds)) hosts at = job_memory (Some (Gen rounds)) hosts at

-- words that give no line, under any contract that lets words of no form end in the usage, and all words in want of memory
module _ (words : List (List ℕ)) (source : SourceSeen) (disk : DiskSeen) (old new : SinkSeen) (status : Status) where
  refused_so : (Holds : Option Job → List ℕ → Seen → Seen → Status → Type 0) → ((after : Seen) → UsageEnds (seen source disk old) after status
      → Holds None (hosts_of words) (seen source disk old) after status)
      → ((asked : Option Job) (hosts : List ℕ) (at : Seen) → Holds asked hosts at at statuses.Memory) → (why : LineNo) → Asks words (Err why)
      → IsRefused why old new status → Holds (job_of words) (hosts_of words) (seen source disk old) (seen source disk new) status
  refused_so Holds usage memory refusals.Usage none told =
      subst (λ (asked : Option Job). Holds asked (hosts_of words) (seen source disk old) (seen source disk new) status) (sym none)
      (usage (seen source disk new) (usage_ends (seen source disk old) (seen source disk new) status refl refl told))
  refused_so Holds usage memory refusals.NoMemory some unwritten =
      let At : SinkSeen → Status → Type 0 = λ sink ended. Holds (job_of words) (hosts_of words) (seen source disk old) (seen source disk sink) ended in
      subst (At new) (sym unwritten.ends) (subst (λ (sink : SinkSeen). At sink statuses.Memory) (sym unwritten.same) (memory (job_of words) (hosts_of words) (seen source disk old)))

  pub command_refused : (why : LineNo) → Asks words (Err why) → IsRefused why old new status
      → JobEnds (job_of words) (hosts_of words) (seen source disk old) (seen source disk new) status
  command_refused = refused_so JobEnds (λ after ends. ends) job_memory

  pub program_refused : (why : LineNo) → Asks words (Err why) → IsRefused why old new status
      → ProgramEnds (job_of words) (hosts_of words) (seen source disk old) (seen source disk new) status
  program_refused = refused_so ProgramEnds (λ after ends. ends) program_memory

-- what holds of a line's job and hosts holds of those of the words
of_line : (Holds : Option Job → List ℕ → Type 0) (words : List (List ℕ)) (line : Line) → IsLineOf words line → Holds (Some line.job) line.hosts.items
    → Holds (job_of words) (hosts_of words)
of_line Holds words line is holds =
    subst (λ (asked : Option Job). Holds asked (hosts_of words)) (sym is.job) (subst (Holds (Some line.job)) is.hosts holds)

pub command_line : (words : List (List ℕ)) (line : Line) (before after : Seen) (status : Status) → IsLineOf words line
    → JobEnds (Some line.job) line.hosts.items before after status → JobEnds (job_of words) (hosts_of words) before after status
command_line words line before after status = of_line (λ asked hosts. JobEnds asked hosts before after status) words line

pub program_line : (words : List (List ℕ)) (line : Line) (before after : Seen) (status : Status) → IsLineOf words line
    → ProgramEnds (Some line.job) line.hosts.items before after status → ProgramEnds (job_of words) (hosts_of words) before after status
program_line words line before after status = of_line (λ asked hosts. ProgramEnds asked hosts before after status) words line

-- without threads every other job is done as by the program
pub program_of : (job : Job) (hosts : List ℕ) (before after : Seen) (status : Status) → (job ≡ Run → ⊥) → JobEnds (Some job) hosts before after status
    → ProgramEnds (Some job) hosts before after status
program_of Sim hosts before after status other ends = ends
program_of Run hosts before after status other ends = absurd (other refl)
program_of Check hosts before after status other ends = ends
program_of Settle hosts before after status other ends = ends
program_of (Gen rounds) hosts before after status other ends = ends
