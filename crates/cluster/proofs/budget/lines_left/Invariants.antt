use Rattle.std.proofs.Common.{◌≡◌, ◌+◌, ◌≤◌, drop}
use Rattle.cluster.specs.LinesLeft.{lines_left}
use Rattle.cluster.proofs.budget.lines_left.Given as goal

abbrev pub invariant-loop-index : goal.invariant-loop-index
invariant-loop-index l =
    (l.left + lines_left (drop l.index l.lines) (drop l.index l.answers) l.phase ≡ lines_left l.lines l.answers l.phase) × (l.left ≤ l.index)
