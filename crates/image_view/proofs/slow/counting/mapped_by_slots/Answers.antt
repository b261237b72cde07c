use Rattle.std.proofs.Common.{ap, ◌∙◌, arith}
use Rattle.vol_layout.specs.declared.field.Field.TheVariants.{Slot}
use Rattle.image_view.specs.Blocks.{hits, image_of}
use Rattle.image_view.specs.Numbers.{logical}
use Rattle.image_view.specs.laws.SumLaws.{summed_more}
use Rattle.image_view.proofs.slow.counting.mapped_by_slots.Goals as goal

pub loop-slot-preserved : goal.loop-slot-preserved
loop-slot-preserved c = record {
  mapped = summed_more (λ s. hits c.args.wanted (logical c.args.geometry.now (image_of c.args.image.now) (Slot s))) c.loop-slot.slot c.loop-slot.mapped c.hits-mapped.result c.loop-slot.invariant.mapped (c.hits-mapped.ensures.hits ∙ ap (hits c.args.wanted) c.logical.ensures);
  bounded = omega arith;
}
