use Rattle.std.proofs.Common.{sum_by}
use Rattle.std.specs.List.{range_with_len}
use Rattle.vol_layout.specs.declared.field.Field.TheVariants.{Slot}
use Rattle.image_view.specs.Balances.{share}
use Rattle.image_view.specs.Numbers.{logical}
use Rattle.volume_check.specs.Counts.{Grew}
use Rattle.volume_check.proofs.uses.count_slots.Given as goal

abbrev pub invariant-loop-slot : goal.invariant-loop-slot
invariant-loop-slot l = Grew (λ d. sum_by (λ s. share (logical l.metadata.geometry l.metadata.image (Slot s)) d) (range_with_len 0 l.slot)) l.initial.uses.items l.uses.items
