-- Being joined and having a key.
use Rattle.std.specs.Prelude.{◌≡◌, ◌⊎◌, ◌≢◌, ℕ, false, [], is_some}
use Rattle.vol_base.specs.declared.command.Command.TheVariants.{Join}
use Rattle.workload.specs.declared.line.Line.{Line}
use Rattle.workload.specs.declared.line.Workload.{Workload}
use Rattle.histories.specs.Joined.{is_joined}
use Rattle.host_runs.specs.RunStates.{RunState}
use Rattle.host_runs.specs.Steps.{IsAtLine}

-- the host is in a `join` behind its first call, and not joined
pub record IsJoining (w : Workload) (s : RunState) (host : ℕ) : Type 0 where
  pub position : ℕ
  pub line : Line
  pub at : IsAtLine w.lines s host position line
  pub command : line.command ≡ Join
  pub begun : (s.notes host).calls ≢ []
  pub out : is_joined w.lines s.answers host ≡ false

-- a host has a key exactly where its answers say that it is joined, or it is in a `join`
abbrev pub IsSeated : Workload → RunState → ℕ → Type 0
IsSeated w s host = (is_some (s.notes host).memory.key ≡ is_joined w.lines s.answers host) ⊎ IsJoining w s host
