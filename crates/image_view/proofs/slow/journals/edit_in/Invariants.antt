use Rattle.image_view.proofs.SlowLaws.{NoneBefore}
use Rattle.image_view.proofs.slow.journals.edit_in.Given as goal

abbrev pub invariant-loop-k : goal.invariant-loop-k
invariant-loop-k l = NoneBefore l.journal.0 l.field l.k
