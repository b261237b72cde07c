-- Which workloads there are, whatever their texts.
use Rattle.std.specs.Prelude.{◌≡◌, ◌+◌, ◌-◌, ◌^◌, ◌<◌, ◌≤◌, ℕ, List, [], ◌∷◌, All, IsTrue, length, not}
use Rattle.vol_layout.specs.declared.geometry.Geometry.{Geometry}
use Rattle.vol_layout.specs.Ranges.{IsGeometry}
use Rattle.workload.specs.declared.line.Line.{Line}
use Rattle.workload.specs.declared.line.Workload.{Workload}
use Rattle.workload.specs.Entries.{most_commands}
use Rattle.workload.specs.Ranges.{is_in_range, is_own}
use Rattle.workload.specs.Verbs.{arguments}

-- the host and the command's arguments are in range, and the command is not on the host itself
pub record IsAllowed (g : Geometry) (line : Line) : Type 0 where
  pub host : line.host < g.hosts
  pub range : IsTrue (is_in_range g line.command)
  pub foreign : IsTrue (not (is_own line.host line.command))
  pub wide : All (λ n. n < 2 ^ 64) (arguments line.command)

-- from line `at` of a phase on, the lines between two commands are those that end a phase
abbrev pub IsNumbered : ℕ → ℕ → List Line → ℕ → Type 0
IsNumbered at phase [] phases = phase < phases
IsNumbered at phase (line ∷ lines) phases =
    (phase ≤ line.phase) × (line.at ≡ at + (line.phase - phase)) × IsNumbered (line.at + 1) line.phase lines phases

-- a workload of some text, if that is not too long
pub record IsWorkload (w : Workload) : Type 0 where
  pub geometry : IsGeometry w.geometry
  pub lines : All (IsAllowed w.geometry) w.lines
  pub numbered : IsNumbered 2 0 w.lines w.phases
  pub few : length w.lines ≤ most_commands
