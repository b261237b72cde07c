use Rattle.std.proofs.Common.{◌≡◌, ◌≤◌, sum_by}
use Rattle.std.specs.List.{range_with_len}
use Rattle.vol_layout.specs.declared.field.Field.TheVariants.{Pointer}
use Rattle.image_view.specs.Numbers.{logical}
use Rattle.image_view.specs.laws.UseLaws.{names_one}
use Rattle.volume_check.proofs.usages.mapped_by_file.Given as goal

abbrev pub invariant-loop-index : goal.invariant-loop-index
invariant-loop-index l = record {
  mapped : l.mapped ≡ sum_by (λ i. names_one (logical l.metadata.geometry l.metadata.image (Pointer l.file i))) (range_with_len 0 l.index);
  bounded : l.mapped ≤ l.index;
}
