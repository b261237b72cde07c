use Rattle.std.proofs.Common.{◌≡◌, ◌≤◌, ◌*◌, sum_by}
use Rattle.std.specs.List.{range_with_len}
use Rattle.vol_layout.specs.declared.field.Field.TheVariants.{Pointer}
use Rattle.vol_layout.specs.Ranges.{limit}
use Rattle.image_view.specs.Numbers.{logical}
use Rattle.image_view.specs.laws.UseLaws.{names_one}
use Rattle.volume_check.proofs.usages.mapped.Given as goal

abbrev pub invariant-loop-file : goal.invariant-loop-file
invariant-loop-file l = record {
  mapped : l.mapped ≡ sum_by (λ f. sum_by (λ i. names_one (logical l.metadata.geometry l.metadata.image (Pointer f i))) (range_with_len 0 (limit l.metadata.geometry))) (range_with_len 0 l.file);
  bounded : l.mapped ≤ 16128 * l.file;
}
