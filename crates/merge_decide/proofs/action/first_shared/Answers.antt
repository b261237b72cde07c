use Rattle.std.proofs.Common.{sym, ◌∙◌}
use Rattle.hint_blocks.specs.declared.entry.IndexEntry.{IndexEntry}
use Rattle.merge_decide.specs.Decision.{first_shared, slot_in}
use Rattle.merge_decide.proofs.FirstLaws.{first-end, first-here, first-later}
use Rattle.merge_decide.proofs.action.first_shared.Goals as goal

pub returns-in-Some : goal.returns-in-Some
unfolding first_shared
returns-in-Some c =
    sym (first-here (λ (hint : IndexEntry). slot_in hint.to) c.args.found.now c.loop-hint.hint-index _ c.in-Some.slot c.loop-hint-test.true (sym c.slot_in.ensures ∙ c.in-Some.is))
    ∙ c.loop-hint.invariant

pub loop-hint-preserved : goal.loop-hint-preserved
unfolding first_shared
loop-hint-preserved c =
    first-later (λ (hint : IndexEntry). slot_in hint.to) c.args.found.now c.loop-hint.hint-index _ c.loop-hint-test.true (sym c.slot_in.ensures ∙ c.in_default.is)
    ∙ c.loop-hint.invariant

pub returns : goal.returns
unfolding first_shared
returns c = sym (first-end (λ (hint : IndexEntry). slot_in hint.to) c.args.found.now c.loop-hint.hint-index c.loop-hint-test.false) ∙ c.loop-hint.invariant
