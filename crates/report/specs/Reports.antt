-- The report of a run.
use Rattle.std.specs.Prelude.{ℕ, List, [], ◌∷◌, ◌++◌, Option, Some, None, codes, decimal, map, slice_index}
use Rattle.std.specs.List.{zip}
use Rattle.image_view.specs.declared.usage.Usage.{Usage}
use Rattle.plain_files.specs.declared.history.Placed.{Placed}
use Rattle.vol_base.specs.declared.answer.Answer.{Answer}
use Rattle.workload.specs.declared.line.Line.{Line}
use Rattle.workload.specs.declared.line.Workload.{Workload}
use Rattle.workload.specs.Printed.{ended, with_numbers}
use Rattle.report.specs.Answers.{answer_text}

-- the text of the answer at a position; one without an answer, which no report has, would have none
abbrev pub text_at : Option Answer → List ℕ
text_at (Some answer) = answer_text answer
text_at None = []

-- the line of a command: its number in the workload's text, and its answer
abbrev pub answer_line : Line × Option Answer → List ℕ
answer_line (line, answer) = decimal line.at ++ 32 ∷ text_at answer

-- a line for each command, in the order of the text
unfoldable pub answer_lines : List Line → List (Option Answer) → List (List ℕ)
answer_lines lines answers = map answer_line (zip lines answers)

-- the number, in the workload's text, of the line at a position
unfoldable pub line_number : List Line → ℕ → ℕ
line_number lines position = slice_index (map (λ line. line.at) lines) position

-- the line of the history: the line numbers of its entries
abbrev pub history_line : List Line → List Placed → List ℕ
history_line lines history = with_numbers (codes "history") (map (λ entry. line_number lines entry.line) history)

-- the line of a usage: the used data blocks, and the mappings
abbrev pub usage_line : Usage → List ℕ
usage_line usage = with_numbers (codes "used") (usage.used ∷ []) ++ 32 ∷ with_numbers (codes "mapped") (usage.mapped ∷ [])

-- a usage has one line; without it there is none
abbrev pub usage_lines : Option Usage → List (List ℕ)
usage_lines (Some usage) = usage_line usage ∷ []
usage_lines None = []

-- the report of a workload, its answers, a history and maybe a usage
unfoldable pub report : Workload → List (Option Answer) → List Placed → Option Usage → List ℕ
report w answers history usage = ended (answer_lines w.lines answers ++ history_line w.lines history ∷ usage_lines usage)
