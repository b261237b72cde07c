use Rattle.std.proofs.Common.{◌≡◌, ◌≤◌, count_by}
use Rattle.std.specs.Prelude.{nat_lt}
use Rattle.std.specs.List.{range_with_len}
use Rattle.vol_layout.specs.declared.field.Field.TheVariants.{Count}
use Rattle.image_view.specs.Numbers.{logical}
use Rattle.volume_check.proofs.usages.used.Given as goal

abbrev pub invariant-loop-number : goal.invariant-loop-number
invariant-loop-number l = record {
  used : l.used ≡ count_by (λ d. nat_lt 0 (logical l.metadata.geometry l.metadata.image (Count d))) (range_with_len 0 l.number);
  bounded : l.used ≤ l.number;
}
