-- How many lines of a phase have no answer, and how many hosts of some are at one.
use Rattle.std.specs.Prelude.{◌+◌, ◌==◌, ◌&&◌, ℕ, zero, suc, Bool, List, [], ◌∷◌, Option, is_none, if◌then◌else◌}
use Rattle.vol_base.specs.declared.answer.Answer.{Answer}
use Rattle.workload.specs.declared.line.Line.{Line}

-- a line of the phase without an answer
abbrev pub is_open : ℕ → Line → Option Answer → Bool
is_open phase line given = line.phase == phase && is_none given

unfoldable pub lines_left : List Line → List (Option Answer) → ℕ → ℕ
lines_left [] answers phase = 0
lines_left (line ∷ lines) [] phase = 0
lines_left (line ∷ lines) (given ∷ answers) phase = lines_left lines answers phase + (if is_open phase line given then 1 else 0)

-- how many of the first n hosts are so
unfoldable pub hosts_in : (ℕ → Bool) → ℕ → ℕ
hosts_in test zero = 0
hosts_in test (suc n) = hosts_in test n + (if test n then 1 else 0)
