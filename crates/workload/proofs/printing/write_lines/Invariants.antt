use Rattle.std.proofs.Common.{◌≡◌, ◌++◌, drop, string_bytes}
use Rattle.workload.specs.Printed.{ended, later_lines}
use Rattle.workload.proofs.printing.write_lines.Given as goal

abbrev pub invariant-loop-line : goal.invariant-loop-line
invariant-loop-line l =
    string_bytes l.text ++ ended (later_lines l.phase (drop l.line-index l.lines) l.phases) ≡ string_bytes l.initial.text ++ ended (later_lines 0 l.lines l.phases)
