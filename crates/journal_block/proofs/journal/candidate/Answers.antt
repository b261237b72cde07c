use Rattle.std.proofs.Common.{refl, sym, ap, ◌∙◌, Some, arith, []}
use Rattle.std.proofs.lemmas.List.Elements.{All-nil}
use Rattle.vol_layout.specs.laws.JournalLaws.{journal_count-spelled}
use Rattle.journal_block.proofs.JournalWalk.{All-more, all_edits, can_be_added, first_read, next_edit, no_edits, one_more}
use Rattle.journal_block.proofs.journal.candidate.Goals as goal

pub returns-then-count-eq0-clause-spelled : goal.returns-then-count-eq0-clause-spelled
returns-then-count-eq0-clause-spelled c key es h = ap Some (sym (no_edits _ _ key es h (sym c.u32_at-count.ensures.number ∙ c.if-count-eq0.true)))

pub returns-then-count-gt8-clause-spelled : goal.returns-then-count-gt8-clause-spelled
returns-then-count-gt8-clause-spelled c key es h = absurd (omega (arith, journal_count-spelled _ _ key es h, h.edits.few, c.u32_at-count.ensures.number))

pub returns-in_err-first-clause-spelled : goal.returns-in_err-first-clause-spelled
returns-in_err-first-clause-spelled c key es h =
    let next = next_edit _ _ key es 0 c.requires h (omega (arith, c.u32_at-count.ensures.number)) in
    let is = c.in_err-first.ensures.edit next.range in
    absurd cc

pub loop-k-init : goal.loop-k-init
loop-k-init c = (
  All-more _ _ [] _ _ (All-nil _) c.in_ok-first.ensures.range c.new-record.ensures,
  first_read _ _ _ _ _ c.requires (omega (arith, c.u32_at-count.ensures.number)) c.u64_at.ensures.number c.in_ok-first.ensures.edit c.new-record.ensures,
)

pub returns-in_err-edit-clause-spelled : goal.returns-in_err-edit-clause-spelled
returns-in_err-edit-clause-spelled c key es h =
    let next = next_edit _ _ key es c.loop-k.k c.requires h (omega (arith, c.u32_at-count.ensures.number)) in
    let is = c.in_err-edit.ensures.edit next.range in
    absurd cc

pub returns-in_err-add-clause-spelled : goal.returns-in_err-add-clause-spelled
returns-in_err-add-clause-spelled c key es h =
    absurd
    (can_be_added _ _ c.loop-k.k _ _ key es c.requires h (omega (arith, c.u32_at-count.ensures.number)) (omega (arith, c.u32_at-count.ensures.number))
    c.loop-k.invariant.1 c.in_ok-edit.ensures.edit (c.in_err-add.ensures.none.0 refl))

pub loop-k-preserved : goal.loop-k-preserved
loop-k-preserved c = (
  All-more _ _ c.loop-k.record.edits _ _ c.loop-k.invariant.0 c.in_ok-edit.ensures.range c.in_ok-add.ensures.added,
  one_more _ _ c.loop-k.k _ _ _ c.requires (omega (arith, c.u32_at-count.ensures.number)) c.loop-k.invariant.1 c.in_ok-edit.ensures.edit c.in_ok-add.ensures.added,
)

pub returns-clause-spelled : goal.returns-clause-spelled
returns-clause-spelled c key es h =
    ap Some (all_edits _ _ key es _ c.loop-k.k h (c.loop-k.invariant.1 key es h) (omega (arith, c.u32_at-count.ensures.number)) (omega arith))
