use Rattle.std.proofs.Common.{◌≡◌, ◌<◌, ℕ, None}
use Rattle.host_runs.specs.NextLines.{next_line}
use Rattle.cluster.proofs.parts.Parts.is_idle.Given as goal

abbrev pub invariant-loop-host : goal.invariant-loop-host
invariant-loop-host g l = (h : ℕ) → h < l.host → next_line l.self.workload.lines l.self.ledger.answers l.self.phase h ≡ None
