use Rattle.std.proofs.Common.{◌≡◌, sum_by, arith}
use Rattle.std.specs.List.{range_with_len}
use Rattle.vol_layout.specs.declared.field.Field.TheVariants.{Pointer}
use Rattle.vol_layout.specs.Ranges.{limit}
use Rattle.image_view.specs.Blocks.{hits, image_of}
use Rattle.image_view.specs.Numbers.{logical}
use Rattle.image_view.specs.laws.SumLaws.{summed_more}
use Rattle.image_view.proofs.SlowLaws.{mapped_sum}
use Rattle.image_view.proofs.slow.counting.mapped.Goals as goal

pub loop-file-preserved : goal.loop-file-preserved
loop-file-preserved c = record {
  mapped = summed_more (λ f. sum_by (λ i. hits c.args.wanted (logical c.args.geometry.now (image_of c.args.image.now) (Pointer f i))) (range_with_len 0 (limit c.args.geometry.now))) c.loop-file.file c.loop-file.mapped c.mapped_by_file-mapped.result c.loop-file.invariant.mapped c.mapped_by_file-mapped.ensures.mapped;
  bounded = omega arith;
}

pub returns : goal.returns
returns c =
    let end : c.loop-file.file ≡ c.args.geometry.now.files = omega arith in
    mapped_sum c.args.geometry.now (image_of c.args.image.now) c.args.wanted c.loop-file.mapped c.mapped_by_slots.result (rw end at c.loop-file.invariant.mapped) c.mapped_by_slots.ensures.mapped
