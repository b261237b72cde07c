use Rattle.std.proofs.Common.{ap, ◌∙◌, arith}
use Rattle.vol_layout.specs.declared.field.Field.TheVariants.{Pointer}
use Rattle.image_view.specs.Blocks.{hits, image_of}
use Rattle.image_view.specs.Numbers.{logical}
use Rattle.image_view.specs.laws.SumLaws.{summed_more}
use Rattle.image_view.proofs.slow.counting.mapped_by_file.Goals as goal

pub loop-index-preserved : goal.loop-index-preserved
loop-index-preserved c = record {
  mapped = summed_more (λ i. hits c.args.wanted (logical c.args.geometry.now (image_of c.args.image.now) (Pointer c.args.file i))) c.loop-index.index c.loop-index.mapped c.hits-mapped.result c.loop-index.invariant.mapped (c.hits-mapped.ensures.hits ∙ ap (hits c.args.wanted) c.logical.ensures);
  bounded = omega arith;
}
