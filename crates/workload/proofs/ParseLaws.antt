-- What is known of a workload that was read.
use Rattle.std.proofs.Common.{◌≡◌, ◌≤◌, ℕ, List, Result, Ok, Err, length, sym, ◌∙◌}
use Rattle.std.specs.Prelude.{IfOk}
use Rattle.workload.specs.declared.cause.ParseNo.{ParseNo}
use Rattle.workload.specs.declared.cause.ParseNo.TheVariants.{Refused, NoMemory}
use Rattle.workload.specs.declared.line.Workload.{Workload}
use Rattle.workload.specs.Grammar.{Gives, most_bytes, workload_of}
use Rattle.workload.specs.Printed.{text_lines}
use Rattle.workload.specs.Texts.{lines_of}
use Rattle.workload.specs.Workloads.{IsWorkload}
use Rattle.workload.proofs.Completeness.{workload_of-complete}
use Rattle.workload.proofs.Soundness.{workload_of-sound}
use Rattle.workload.proofs.Spelling.{workload_of-text}

pub read-written : (text : List ℕ) (result : Result Workload ParseNo) → Gives (workload_of text) result
    → IfOk result (λ w. lines_of text ≡ text_lines w)
read-written text (Ok w) h = workload_of-text text w h
read-written text (Err e) h = tt

pub read-in_range : (text : List ℕ) (result : Result Workload ParseNo) → Gives (workload_of text) result → IfOk result IsWorkload
read-in_range text (Ok w) h = workload_of-sound text w h
read-in_range text (Err e) h = tt

pub read-complete : (text : List ℕ) (result : Result Workload ParseNo) → Gives (workload_of text) result
    → (w : Workload) → IsWorkload w → lines_of text ≡ text_lines w → length text ≤ most_bytes → Gives (Ok w) result
read-complete text (Ok v) h w inside e short = sym (workload_of-complete text w inside e short) ∙ h
read-complete text (Err (Refused line cause)) h w inside e short = sym (workload_of-complete text w inside e short) ∙ h
read-complete text (Err NoMemory) h w inside e short = tt
