use Rattle.std.proofs.Common.{◌≤◌, vec_capacity}
use Rattle.cluster.specs.Starts.{AreFirst}
use Rattle.cluster.proofs.starting.first_lines.Given as goal

abbrev pub invariant-loop-host : goal.invariant-loop-host
invariant-loop-host l = AreFirst l.lines l.host l.heads.items × (l.hosts ≤ vec_capacity l.heads)
