use Rattle.std.proofs.Common.{◌≡◌, ap, ◌∙◌, arith}
use Rattle.vol_layout.specs.declared.field.Field.TheVariants.{Pointer}
use Rattle.vol_layout.specs.Ranges.{limit}
use Rattle.image_view.specs.Numbers.{logical}
use Rattle.image_view.specs.laws.UseLaws.{names_one}
use Rattle.image_view.specs.laws.SumLaws.{summed_more}
use Rattle.volume_check.proofs.usages.mapped_by_file.Goals as goal

pub loop-index-preserved : goal.loop-index-preserved
loop-index-preserved c = record {
  mapped = summed_more (λ i. names_one (logical c.args.metadata.now.geometry c.args.metadata.now.image (Pointer c.args.file i))) c.loop-index.index c.loop-index.mapped c.names_one-mapped.result c.loop-index.invariant.mapped (c.names_one-mapped.ensures.names ∙ ap names_one c.logical.ensures.number);
  bounded = omega arith;
}

pub returns-clause-mapped : goal.returns-clause-mapped
returns-clause-mapped c =
    let same = c.limit-index-end.ensures.blocks ∙ ap limit c.geometry.ensures.geometry in
    let end : c.loop-index.index ≡ limit c.args.metadata.now.geometry = omega arith in
    rw end at c.loop-index.invariant.mapped
