use Rattle.std.proofs.Common.{◌<◌, ℕ}
use Rattle.recover_plan.specs.Replaying.{IsNamedBefore}
use Rattle.recover_plan.proofs.replaying.next_edit.Given as goal

abbrev pub invariant-loop-next : goal.invariant-loop-next
invariant-loop-next l = (i : ℕ) → l.k < i → i < l.next → IsNamedBefore l.entry.edits i
