use Rattle.std.proofs.Common.{◌≡◌, ap, ◌∙◌, arith}
use Rattle.vol_layout.specs.declared.field.Field.TheVariants.{Slot}
use Rattle.vol_layout.specs.Ranges.{arena_slots}
use Rattle.image_view.specs.Numbers.{logical}
use Rattle.image_view.specs.laws.UseLaws.{names_one}
use Rattle.image_view.specs.laws.SumLaws.{summed_more}
use Rattle.volume_check.proofs.usages.mapped_by_slots.Goals as goal

pub loop-slot-preserved : goal.loop-slot-preserved
loop-slot-preserved c = record {
  mapped = summed_more (λ i. names_one (logical c.args.metadata.now.geometry c.args.metadata.now.image (Slot i))) c.loop-slot.slot c.loop-slot.mapped c.names_one-mapped.result c.loop-slot.invariant.mapped (c.names_one-mapped.ensures.names ∙ ap names_one c.logical.ensures.number);
  bounded = omega arith;
}

pub returns-clause-mapped : goal.returns-clause-mapped
returns-clause-mapped c =
    let same = c.arena_slots-slot-end.ensures.slots ∙ ap arena_slots c.geometry.ensures.geometry in
    let end : c.loop-slot.slot ≡ arena_slots c.args.metadata.now.geometry = omega arith in
    rw end at c.loop-slot.invariant.mapped
