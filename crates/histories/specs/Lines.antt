-- Lines of a workload, by position, and what they got.
use Rattle.std.specs.Prelude.{◌≡◌, ℕ, List, Option, Some, slice_get, IsSome}
use Rattle.vol_base.specs.declared.answer.Answer.{Answer}
use Rattle.vol_base.specs.PlainCalls.{plain_call_of}
use Rattle.workload.specs.declared.line.Line.{Line}

-- the line at a position
abbrev pub IsLine : List Line → ℕ → Line → Type 0
IsLine lines p line = slice_get lines p ≡ Some line

-- the position got this answer
abbrev pub IsAnswered : List (Option Answer) → ℕ → Answer → Type 0
IsAnswered answers p answer = slice_get answers p ≡ Some (Some answer)

-- the line is a file command
abbrev pub IsFileLine : Line → Type 0
IsFileLine line = IsSome (plain_call_of line.command)
