use Rattle.std.proofs.Common.{refl}
use Rattle.volume_check.proofs.HoldLaws.{new_counted, slot_counted, table_counted}
use Rattle.volume_check.proofs.records.has_counts.Goals as goal

pub returns-then-counts : goal.returns-then-counts
returns-then-counts c = (
  λ t. slot_counted c.args.metadata.now c.args.entry.now.edits c.args.edit.now c.number.result c.number.ensures (c.counts.ensures.0 c.if-counts.true) (c.counts-then-counts.ensures.0 t),
  λ all. c.counts-then-counts.ensures.1 (new_counted c.args.metadata.now c.args.entry.now.edits c.args.edit.now c.in-Slot.field-0 c.in-Slot.is all),
)

pub returns-else-counts : goal.returns-else-counts
returns-else-counts c = (
  λ t. let no = c.if-counts.false in absurd cc,
  λ all. c.counts.ensures.1 (table_counted c.args.metadata.now c.args.entry.now.edits c.args.edit.now c.in-Slot.field-0 c.number.result c.in-Slot.is c.number.ensures all),
)

pub returns-in_default : goal.returns-in_default
returns-in_default c = (λ t s d is. absurd (c.in_default.not-Slot s is), λ all. refl)
