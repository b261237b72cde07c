use Rattle.std.proofs.Common.{◌≡◌, ◌++◌, drop, string_bytes}
use Rattle.workload.specs.Printed.{ended}
use Rattle.report.specs.Reports.{answer_lines}
use Rattle.report.proofs.lines.write_answers.Given as goal

abbrev pub invariant-loop-index : goal.invariant-loop-index
invariant-loop-index l =
    string_bytes l.text ++ ended (answer_lines (drop l.index l.lines) (drop l.index l.answers)) ≡ string_bytes l.initial.text ++ ended (answer_lines l.lines l.answers)
