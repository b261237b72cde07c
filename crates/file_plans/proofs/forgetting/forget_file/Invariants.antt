use Rattle.file_plans.specs.Forgets.{ForgetsFirst}
use Rattle.file_plans.proofs.forgetting.forget_file.Given as goal

abbrev pub invariant-loop-more : goal.invariant-loop-more
invariant-loop-more l = ForgetsFirst l.fn.cache l.cache l.host l.file l.more
