-- The one text of a workload.
use Rattle.std.specs.Prelude.{◌≡◌, ◌-◌, ℕ, List, [], ◌∷◌, ◌++◌, Ok, codes, decimal, replicate}
use Rattle.std.specs.List.{flat_map}
use Rattle.vol_layout.specs.declared.geometry.Geometry.{Geometry}
use Rattle.vol_layout.specs.Superblock.{written_numbers}
use Rattle.workload.specs.declared.line.Line.{Line}
use Rattle.workload.specs.declared.line.Workload.{Workload}
use Rattle.workload.specs.Grammar.{workload_of}
use Rattle.workload.specs.Verbs.{arguments, name_of, verb_in}

-- a word, and numbers behind it, with one space between two
abbrev pub with_numbers : List ℕ → List ℕ → List ℕ
with_numbers word ns = word ++ flat_map (λ n. 32 ∷ decimal n) ns

-- the first line: six numbers, and a seventh where a file has more than one table block
abbrev pub volume_text : Geometry → List ℕ
volume_text g = with_numbers (codes "volume") (written_numbers g)

-- the line of a command
abbrev pub command_text : Line → List ℕ
command_text line = decimal line.host ++ 32 ∷ with_numbers (name_of (verb_in line.command)) (arguments line.command)

-- so many lines that end a phase
abbrev pub barrier_lines : ℕ → List (List ℕ)
barrier_lines n = replicate n (codes "barrier")

-- the lines behind the first, from a phase on: a `barrier` for each phase that ends
unfoldable pub later_lines : ℕ → List Line → ℕ → List (List ℕ)
later_lines phase [] phases = barrier_lines (phases - 1 - phase)
later_lines phase (line ∷ lines) phases = barrier_lines (line.phase - phase) ++ command_text line ∷ later_lines line.phase lines phases

-- the lines of a workload
unfoldable pub text_lines : Workload → List (List ℕ)
text_lines w = volume_text w.geometry ∷ later_lines 0 w.lines w.phases

-- lines, each ended by LF
unfoldable pub ended : List (List ℕ) → List ℕ
ended lines = flat_map (λ line. line ++ 10 ∷ []) lines

-- the text of a workload
abbrev pub text_of : Workload → List ℕ
text_of w = ended (text_lines w)

-- the workload is that of a text that ends with LF
abbrev pub IsPrintable : Workload → Type 0
IsPrintable w = (front : List ℕ) × (workload_of (front ++ 10 ∷ []) ≡ Ok w)
