-- Lines in the order of their phases.
use Rattle.std.specs.Prelude.{◌<◌, ◌≤◌, ℕ, List}
use Rattle.workload.specs.declared.line.Line.{Line}
use Rattle.histories.specs.Lines.{IsLine}

-- the lines of a phase stand before those of the next
abbrev pub ArePhased : List Line → Type 0
ArePhased lines = (j k : ℕ) (l m : Line) → j < k → IsLine lines j l → IsLine lines k m → l.phase ≤ m.phase

-- each line is of a phase below this number
abbrev pub AreWithin : ℕ → List Line → Type 0
AreWithin phases lines = (p : ℕ) (line : Line) → IsLine lines p line → line.phase < phases
