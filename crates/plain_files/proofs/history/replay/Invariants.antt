use Rattle.std.proofs.Common.{◌≡◌, ◌↔◌, length, drop}
use Rattle.plain_files.specs.History.{IsLegal, state_after}
use Rattle.plain_files.proofs.history.replay.Given as goal

abbrev pub invariant-loop-entry : goal.invariant-loop-entry
invariant-loop-entry l =
    let rest = drop l.entry-index l.history in
    record {
      numbers : length l.files.files ≡ length l.fn.start.files;
      legal : IsLegal l.workload_calls l.fn.start l.history ↔ IsLegal l.workload_calls l.files rest;
      state : state_after l.workload_calls l.fn.start l.history ≡ state_after l.workload_calls l.files rest;
    }
