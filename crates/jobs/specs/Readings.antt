-- What is answered for a text.
use Rattle.std.specs.Prelude.{◌≡◌, Result, Ok, Err}
use Rattle.workload.specs.declared.line.Workload.{Workload}
use Rattle.workload.specs.Grammar.{Refusal}
use Rattle.jobs.specs.declared.outcome.Outcome.{Outcome}
use Rattle.jobs.specs.declared.outcome.Outcome.TheVariants as outcomes

-- what is answered is what the text says, unless memory was refused
abbrev pub IsReadingOf : Result Workload Refusal → Result Workload Outcome → Type 0
IsReadingOf says (Ok workload) = says ≡ Ok workload
IsReadingOf says (Err (outcomes.Workload line cause)) = says ≡ Err (line, cause)
IsReadingOf says (Err outcomes.Memory) = Unit {0}
IsReadingOf says (Err _) = ⊥
