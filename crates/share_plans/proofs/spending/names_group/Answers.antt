use Rattle.std.proofs.Common.{◌≡◌, ℕ}
use Rattle.share_plans.specs.Spents.{names_group}
use Rattle.share_plans.specs.laws.SpentLaws.{at_end}
use Rattle.share_plans.proofs.spending.names_group.Goals as goal

pub returns : goal.returns
returns c =
    at_end (λ (n : ℕ). c.loop-entry.found ≡ names_group c.args.part.now c.args.group n) c.loop-entry.entry c.loop-entry-test.false
    c.loop-entry.auto.entry-end c.loop-entry.invariant
