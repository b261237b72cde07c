use Rattle.std.proofs.Common.{◌≡◌, ◌≤◌, ◌-◌, ◌++◌, string_bytes}
use Rattle.workload.specs.Printed.{barrier_lines, ended}
use Rattle.workload.proofs.printing.write_barriers.Given as goal

abbrev pub invariant-loop-phase : goal.invariant-loop-phase
invariant-loop-phase l =
    record {
      written : string_bytes l.text ≡ string_bytes l.initial.text ++ ended (barrier_lines (l._phase - l.from));
      within : l._phase - l.from ≤ l.to - l.from;
    }
