use Rattle.std.proofs.Common.{◌≡◌, ◌++◌, ◌+◌, ◌-◌, ◌≤◌}
use Rattle.hint_plans.specs.Scans.{blocks_in}
use Rattle.hint_plans.proofs.scan.gather.Given as goal

abbrev pub invariant-loop-k : goal.invariant-loop-k
invariant-loop-k l =
    (l.found ≡ l.initial.found ++ blocks_in l.table l.file (l.index + l.from) (l.k - l.from)) × (l.from ≤ l.k) × (l.k ≤ l.to)
