-- The line that a host is at.
use Rattle.std.specs.Prelude.{◌==◌, ◌&&◌, ℕ, suc, Bool, List, [], ◌∷◌, Option, Some, None, is_none, option_and_then, option_map, slice_get, if◌then◌else◌}
use Rattle.vol_base.specs.declared.answer.Answer.{Answer}
use Rattle.workload.specs.declared.line.Line.{Line}

-- whether a line is one of this phase and host without an answer
abbrev pub is_left : ℕ → ℕ → Line → Option Answer → Bool
is_left phase host line given = line.phase == phase && line.host == host && is_none given

-- the position of the first line of a phase and host that has no answer
unfoldable pub next_line : List Line → List (Option Answer) → ℕ → ℕ → Option ℕ
next_line [] answers phase host = None
next_line (line ∷ lines) [] phase host = None
next_line (line ∷ lines) (given ∷ answers) phase host =
    if is_left phase host line given then Some 0 else option_map suc (next_line lines answers phase host)

-- the line at a position that may be none
abbrev pub line_at : List Line → Option ℕ → Option Line
line_at lines position = option_and_then (slice_get lines) position
