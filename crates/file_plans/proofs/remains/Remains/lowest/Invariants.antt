use Rattle.std.proofs.Common.{◌≡◌, drop}
use Rattle.file_plans.specs.Commits.{lowest_from}
use Rattle.file_plans.proofs.remains.Remains.lowest.Given as goal

abbrev pub invariant-loop-k : goal.invariant-loop-k
invariant-loop-k l = l.lowest ≡ lowest_from l.from (drop l.k l.self)
