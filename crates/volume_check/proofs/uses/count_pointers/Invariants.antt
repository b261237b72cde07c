use Rattle.std.proofs.Common.{sum_by}
use Rattle.std.specs.List.{range_with_len}
use Rattle.vol_layout.specs.declared.field.Field.TheVariants.{Pointer}
use Rattle.image_view.specs.Balances.{share}
use Rattle.image_view.specs.Numbers.{logical}
use Rattle.volume_check.specs.Counts.{Grew}
use Rattle.volume_check.proofs.uses.count_pointers.Given as goal

abbrev pub invariant-loop-index : goal.invariant-loop-index
invariant-loop-index l = Grew (λ d. sum_by (λ i. share (logical l.metadata.geometry l.metadata.image (Pointer l.file i)) d) (range_with_len 0 l.index)) l.initial.uses.items l.uses.items
