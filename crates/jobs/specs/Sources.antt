-- What a source gives to be run.
use Rattle.std.specs.Prelude.{◌≡◌, ◌⊎◌, ◌<◌, ◌≤◌, ℕ, List, Option, Ok, Err, length}
use Rattle.std.specs.Io.KnownBytes.{Consumes, IsAtEnd}
use Rattle.vol_base.specs.Faults.{Rose}
use Rattle.workload.specs.declared.cause.WorkloadNo.{WorkloadNo}
use Rattle.workload.specs.declared.line.Workload.{Workload}
use Rattle.workload.specs.Grammar.{most_bytes, workload_of}
use Rattle.jobs.specs.declared.outcome.Outcome.{Outcome}
use Rattle.jobs.specs.declared.outcome.Outcome.TheVariants as outcomes

-- a source: the bytes that are left, where it tells them, and how often it failed
pub record SourceSeen : Type 0 where
  pub left : Option (List ℕ)
  pub faults : ℕ

-- the source was read to its end, and the text that it gave is that of this workload
pub record IsRead (before after : SourceSeen) (workload : Workload) : Type 0 where
  pub text : List ℕ
  pub consumed : Consumes before.left after.left text
  pub ended : IsAtEnd after.left
  pub is : workload_of text ≡ Ok workload

-- the text that the source gave is refused at this line for this cause; it is all that was left, or already too long
pub record IsRefusedText (before after : SourceSeen) (line : ℕ) (cause : WorkloadNo) : Type 0 where
  pub text : List ℕ
  pub consumed : Consumes before.left after.left text
  pub whole : IsAtEnd after.left ⊎ (most_bytes < length text)
  pub is : workload_of text ≡ Err (line, cause)

-- a front of what was left was taken, of this length at most
pub record TakesAtMost (most : ℕ) (before after : SourceSeen) : Type 0 where
  pub front : List ℕ
  pub taken : Consumes before.left after.left front
  pub bounded : length front ≤ most

-- why no workload was read
abbrev pub StopsReading : SourceSeen → SourceSeen → Outcome → Type 0
StopsReading before after (outcomes.Workload line cause) = IsRefusedText before after line cause
StopsReading before after outcomes.ReadFault = Rose before.faults after.faults
StopsReading before after outcomes.Memory = Unit {0}
StopsReading before after _ = ⊥
