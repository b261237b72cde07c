use Rattle.std.proofs.Common.{sym, ap, ◌∙◌, List}
use Rattle.vol_layout.specs.declared.field.Edit.{Edit}
use Rattle.vol_layout.specs.Edits.{touches}
use Rattle.journal_block.proofs.JournalWalk.{found, not_yet}
use Rattle.journal_block.proofs.record.Record.touches.Goals as goal

pub returns-then-are_same : goal.returns-then-are_same
returns-then-are_same c =
    sym (ap (λ (xs : List Edit). touches xs c.args.field) (sym c.edits-edit-items.ensures.edits) ∙ found _ _ _ _ c.loop-edit-test.true (c.are_same.ensures.0 c.if-are_same.true))

pub loop-edit-preserved : goal.loop-edit-preserved
loop-edit-preserved c =
    not_yet _ _ _ _ c.loop-edit-test.true c.loop-edit.invariant (λ is. let same = c.are_same.ensures.1 is in let not = c.if-are_same.false in cc)
