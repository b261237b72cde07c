-- Runs of a workload by several hosts.
use Rattle.std.specs.Prelude.{◌≡◌, ◌+◌, ◌<◌, ℕ, List, [], ◌∷◌, Option, Some, None}
use Rattle.vol_base.specs.declared.answer.Turn.{Turn}
use Rattle.vol_base.specs.declared.answer.Turn.TheVariants.{Answered, Idle, Moved, Work}
use Rattle.vol_base.specs.declared.block.Block.{Block}
use Rattle.vol_base.specs.declared.block.Digest.{Digest}
use Rattle.workload.specs.declared.line.Workload.{Workload}
use Rattle.host_runs.specs.Awaited.{awaited}
use Rattle.host_runs.specs.NextLines.{next_line}
use Rattle.host_runs.specs.Notes.{noting, with_digest}
use Rattle.host_runs.specs.RunStates.{RunState}
use Rattle.host_runs.specs.Steps.{IsStep}

-- a turn of a host: it is idle exactly where it has no line left in the phase; it waits for a digest, and nothing changes; it
-- moves, or its command is answered
abbrev pub IsTurn : Workload → ℕ → Turn → RunState → RunState → Type 0
IsTurn w host Idle s t = (next_line w.lines s.answers s.phase host ≡ None) × (t ≡ s)
IsTurn w host (Work block) s t = (awaited w s host ≡ Some block) × (t ≡ s)
IsTurn w host Moved s t = IsStep w host None s t
IsTurn w host (Answered answer) s t = IsStep w host (Some answer) s t

-- a digest that is handed in is noted where the host waits for one
abbrev pub supplied : ℕ → Digest → Option Block → RunState → RunState
supplied host digest None s = s
supplied host digest (Some block) s = record s { notes = noting host (with_digest digest (s.notes host)) s.notes }

-- no host has a line left in the phase
abbrev pub AreIdle : Workload → RunState → Type 0
AreIdle w s = (host : ℕ) → next_line w.lines s.answers s.phase host ≡ None

-- the next phase begins where all hosts are idle, and there is one
pub record BeginsPhase (w : Workload) (s t : RunState) : Type 0 where
  pub idle : AreIdle w s
  pub more : s.phase + 1 < w.phases
  pub phase : t ≡ record s { phase = s.phase + 1 }

-- what leads from one state to the next: a turn of a host, a digest that is handed in, or the next phase
pub data RunCall : Type 0 where
  Turns : ℕ → Turn → RunCall
  Supplies : ℕ → Digest → RunCall
  NextPhase : RunCall

abbrev pub IsCall : Workload → RunCall → RunState → RunState → Type 0
IsCall w (Turns host turn) s t = IsTurn w host turn s t
IsCall w (Supplies host digest) s t = t ≡ supplied host digest (awaited w s host) s
IsCall w NextPhase s t = BeginsPhase w s t

-- a run: from one state to another by these calls
abbrev pub Run : Workload → RunState → List RunCall → RunState → Type 0
Run w s [] t = t ≡ s
Run w s (call ∷ calls) t = (middle : RunState) × IsCall w call s middle × Run w middle calls t
