-- The grammar: what a text says, or its first faulty line with that line's first cause.
use Rattle.std.specs.Prelude.{◌≡◌, ◌+◌, ℕ, List, [], ◌∷◌, ◌++◌, Result, Ok, Err, length, nat_le, if◌then◌else◌}
use Rattle.vol_layout.specs.declared.geometry.Geometry.{Geometry}
use Rattle.workload.specs.declared.cause.WorkloadNo.{WorkloadNo}
use Rattle.workload.specs.declared.cause.WorkloadNo.TheVariants.{Long, Volume}
use Rattle.workload.specs.declared.cause.ParseNo.{ParseNo}
use Rattle.workload.specs.declared.cause.ParseNo.TheVariants.{Refused, NoMemory}
use Rattle.workload.specs.declared.entry.Entry.{Entry}
use Rattle.workload.specs.declared.entry.Entry.TheVariants.{Barrier, Order}
use Rattle.workload.specs.declared.line.Line.{Line}
use Rattle.workload.specs.declared.line.Workload.{Workload}
use Rattle.workload.specs.Checks.{◌>>=◌}
use Rattle.workload.specs.Entries.{entry_of}
use Rattle.workload.specs.Texts.{lines_of}
use Rattle.workload.specs.VolumeLine.{volume_line}

-- a line, counted from 1, and why it is refused
abbrev pub Refusal : Type 0
Refusal = ℕ × WorkloadNo

-- what a line says, or that line with its cause
abbrev pub at_line : {A : Type 0} → ℕ → Result A WorkloadNo → Result A Refusal
at_line at (Ok value) = Ok value
at_line at (Err cause) = Err (at, cause)

-- how many commands an entry adds
abbrev pub commands_in : Entry → ℕ
commands_in Barrier = 0
commands_in (Order host command) = 1

-- what the lines from line `at` on say behind `before` commands, or the first faulty one
unfoldable pub entries_of : Geometry → ℕ → ℕ → List (List ℕ) → Result (List Entry) Refusal
entries_of g at before [] = Ok []
entries_of g at before (line ∷ lines) =
    at_line at (entry_of g before line)
    >>= λ entry. entries_of g (at + 1) (before + commands_in entry) lines
    >>= λ entries. Ok (entry ∷ entries)

-- the line that an entry adds to a workload
abbrev pub line_of : ℕ → ℕ → Entry → List Line
line_of at phase Barrier = []
line_of at phase (Order host command) = record { at = at; phase = phase; host = host; command = command } ∷ []

-- the phase behind an entry
abbrev pub phase_behind : ℕ → Entry → ℕ
phase_behind phase Barrier = phase + 1
phase_behind phase (Order host command) = phase

-- the commands among entries, each with its line, from line `at` on, and its phase
unfoldable pub numbered : ℕ → ℕ → List Entry → List Line
numbered at phase [] = []
numbered at phase (entry ∷ entries) = line_of at phase entry ++ numbered (at + 1) (phase_behind phase entry) entries

-- how many phases end in entries
unfoldable pub barriers : List Entry → ℕ
barriers [] = 0
barriers (Barrier ∷ entries) = barriers entries + 1
barriers (Order host command ∷ entries) = barriers entries

-- the workload of a volume with such lines behind the first
abbrev pub workload_with : Geometry → List Entry → Workload
workload_with g entries = record { geometry = g; lines = numbered 2 0 entries; phases = barriers entries + 1 }

-- the workload of a volume and of the lines behind the first
unfoldable pub workload_behind : Geometry → List (List ℕ) → Result Workload Refusal
workload_behind g lines = entries_of g 2 0 lines >>= λ entries. Ok (workload_with g entries)

-- the workload of the lines of a text
unfoldable pub workload_of_lines : List (List ℕ) → Result Workload Refusal
workload_of_lines [] = Err (1, Volume)
workload_of_lines (first ∷ lines) =
    at_line 1 (volume_line first) >>= λ g. workload_behind g lines

-- a text has at most so many bytes
unfoldable pub most_bytes : ℕ
most_bytes = 1048576

-- the workload of a text, or its first faulty line with that line's first cause
unfoldable pub workload_of : List ℕ → Result Workload Refusal
workload_of text = if nat_le (length text) most_bytes then workload_of_lines (lines_of text) else Err (0, Long)

-- what was returned is what the grammar gives, unless memory was refused
abbrev pub Gives : Result Workload Refusal → Result Workload ParseNo → Type 0
Gives read (Ok workload) = read ≡ Ok workload
Gives read (Err (Refused line cause)) = read ≡ Err (line, cause)
Gives read (Err NoMemory) = Unit {0}
