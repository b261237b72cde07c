use Rattle.std.proofs.Common.{◌≡◌, ◌≤◌, ◌+◌, length, drop}
use Rattle.file_plans.specs.Commits.{named_in}
use Rattle.file_plans.proofs.remains.Remains.named.Given as goal

abbrev pub invariant-loop-k : goal.invariant-loop-k
invariant-loop-k l = (l.count ≡ named_in (drop l.k l.self) l.number) × (l.count + l.k ≤ length l.self)
