use Rattle.std.proofs.Common.{subst}
use Rattle.merge_decide.specs.declared.outcome.MergeCount.{MergeCount}
use Rattle.merge_shelves.specs.Tallies.{IsRaised}
use Rattle.merge_shelves.proofs.Counting.{is_raised}
use Rattle.merge_shelves.proofs.tally.raise.Goals as goal

pub returns : goal.returns
returns c =
    subst (λ (one : MergeCount). IsRaised one c.args.counts.now c.raise.new.counts) c.counted.ensures
    (is_raised c.counted.result c.args.counts.now c.raise.new.counts c.raise.ensures.raised c.raise.ensures.others)
