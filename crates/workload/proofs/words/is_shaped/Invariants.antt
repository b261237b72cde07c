use Rattle.std.proofs.Common.{◌≡◌, length}
use Rattle.workload.specs.Texts.{is_shaped}
use Rattle.workload.proofs.words.is_shaped.Given as goal

abbrev pub invariant-loop-word : goal.invariant-loop-word
invariant-loop-word l = is_shaped l.rest ≡ is_shaped l.fn.line

abbrev pub decreases-loop-word : goal.decreases-loop-word
decreases-loop-word l = length l.rest
