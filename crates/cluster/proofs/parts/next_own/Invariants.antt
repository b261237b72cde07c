use Rattle.std.proofs.Common.{◌≢◌, ◌<◌, ◌≤◌, ℕ}
use Rattle.workload.specs.declared.line.Line.{Line}
use Rattle.histories.specs.Lines.{IsLine}
use Rattle.cluster.proofs.parts.next_own.Given as goal

abbrev pub invariant-loop-position : goal.invariant-loop-position
invariant-loop-position l = (q : ℕ) (line : Line) → l.from ≤ q → q < l.position → IsLine l.lines q line → line.host ≢ l.host
