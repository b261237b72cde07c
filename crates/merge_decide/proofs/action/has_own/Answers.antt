use Rattle.std.proofs.Common.{sym, ◌∙◌}
use Rattle.hint_blocks.specs.declared.entry.IndexEntry.{IndexEntry}
use Rattle.merge_decide.specs.Decision.{has_own, is_at}
use Rattle.merge_decide.proofs.FirstLaws.{any-end, any-here, any-later}
use Rattle.merge_decide.proofs.action.has_own.Goals as goal

pub returns-then-is_at : goal.returns-then-is_at
unfolding has_own
returns-then-is_at c =
    sym (any-here (λ (hint : IndexEntry). is_at c.args.entry.now hint.to) c.args.found.now c.loop-hint.hint-index _ c.loop-hint-test.true (sym c.is_at.ensures ∙ c.if-is_at.true))
    ∙ c.loop-hint.invariant

pub loop-hint-preserved : goal.loop-hint-preserved
unfolding has_own
loop-hint-preserved c =
    any-later (λ (hint : IndexEntry). is_at c.args.entry.now hint.to) c.args.found.now c.loop-hint.hint-index _ c.loop-hint-test.true (sym c.is_at.ensures ∙ c.if-is_at.false)
    ∙ c.loop-hint.invariant

pub returns : goal.returns
unfolding has_own
returns c = sym (any-end (λ (hint : IndexEntry). is_at c.args.entry.now hint.to) c.args.found.now c.loop-hint.hint-index c.loop-hint-test.false) ∙ c.loop-hint.invariant
