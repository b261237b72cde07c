use Rattle.std.proofs.Common.{◌≢◌, ◌<◌, ℕ, slice_index}
use Rattle.vol_base.specs.Packing.{numbers}
use Rattle.share_plans.proofs.promoting.first_empty.Given as goal

abbrev pub invariant-loop-entry : goal.invariant-loop-entry
invariant-loop-entry l = (k : ℕ) → k < l.entry → slice_index (numbers l.table) k ≢ 0
