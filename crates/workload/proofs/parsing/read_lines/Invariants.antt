use Rattle.std.proofs.Common.{◌≡◌, ◌≤◌, ◌+◌, length, vec_len}
use Rattle.workload.specs.Grammar.{entries_of, workload_behind}
use Rattle.workload.specs.Texts.{lines_of}
use Rattle.workload.proofs.Gathering.{gathered}
use Rattle.workload.proofs.parsing.read_lines.Given as goal

abbrev pub invariant-loop-line : goal.invariant-loop-line
invariant-loop-line l =
    record {
      read : gathered l.geometry l.lines.items l.at l.phase (entries_of l.geometry l.at (vec_len l.lines) (lines_of l.rest)) ≡ workload_behind l.geometry (lines_of l.initial.rest);
      line : l.at + length l.rest ≤ 1048578;
      ended : l.phase + length l.rest ≤ 1048576;
    }

abbrev pub decreases-loop-line : goal.decreases-loop-line
decreases-loop-line l = length l.rest
