use Rattle.std.proofs.Common.{◌≡◌, sum_by, ap, arith}
use Rattle.std.specs.List.{range_with_len}
use Rattle.vol_layout.specs.declared.geometry.Geometry.{Geometry}
use Rattle.vol_layout.specs.declared.field.Field.TheVariants.{Pointer}
use Rattle.vol_layout.specs.Ranges.{limit}
use Rattle.image_view.specs.Numbers.{logical}
use Rattle.image_view.specs.laws.UseLaws.{names_one}
use Rattle.image_view.specs.laws.SumLaws.{summed_more}
use Rattle.volume_check.proofs.SumsOver.{mapped_sum}
use Rattle.volume_check.proofs.usages.mapped.Goals as goal

pub loop-file-preserved : goal.loop-file-preserved
loop-file-preserved c = record {
  mapped = summed_more (λ f. sum_by (λ i. names_one (logical c.args.metadata.now.geometry c.args.metadata.now.image (Pointer f i))) (range_with_len 0 (limit c.args.metadata.now.geometry))) c.loop-file.file c.loop-file.mapped c.mapped_by_file-mapped.result c.loop-file.invariant.mapped c.mapped_by_file-mapped.ensures.mapped;
  bounded = omega arith;
}

pub returns : goal.returns
returns c =
    let same : c.geometry-file-end.result.files ≡ c.args.metadata.now.geometry.files = ap (λ (g : Geometry). g.files) c.geometry-file-end.ensures.geometry in
    let end : c.loop-file.file ≡ c.args.metadata.now.geometry.files = omega arith in
    mapped_sum c.args.metadata.now c.loop-file.mapped c.mapped_by_slots.result (rw end at c.loop-file.invariant.mapped) c.mapped_by_slots.ensures.mapped
