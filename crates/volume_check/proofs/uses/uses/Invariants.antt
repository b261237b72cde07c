use Rattle.std.proofs.Common.{sum_by}
use Rattle.std.specs.List.{range_with_len}
use Rattle.volume_check.specs.Counts.{Grew, named_by_file}
use Rattle.volume_check.proofs.uses.uses.Given as goal

abbrev pub invariant-loop-file : goal.invariant-loop-file
invariant-loop-file l = Grew (λ d. sum_by (λ f. named_by_file l.metadata f d) (range_with_len 0 l.file)) l.initial.uses.items l.uses.items
