use Rattle.std.proofs.Common.{◌≡◌, ◌∙◌, ◌+◌, ◌*◌, ℕ, ap, sym, refl}
use Rattle.vol_base.specs.Packing.{numbers}
use Rattle.share_plans.specs.Spents.{gathered, is_spent, slots_record}
use Rattle.share_plans.specs.laws.SpentLaws.{at_end, index_got, record_next, record_same, row_is, slot_other}
use Rattle.share_plans.proofs.spending.spent_slots.Goals as goal
use Rattle.share_plans.proofs.spending.spent_slots.Goals.{else-is_spent, then-is_spent}

pub with_slot-slots-requires : goal.with_slot-slots-requires
with_slot-slots-requires c = record {
  other = slot_other c.args.part_no c.args.part.now c.args.group_no c.args.group.now c.args.key.0 c.loop-at.at
      (1008 * c.from.result + c.loop-at.at) c.loop-at.slots c.loop-at.invariant (row_is c.args.part_no c.from.result c.loop-at.at c.from.ensures);
}

pub loop-at-preserved : goal.loop-at-preserved
loop-at-preserved c = elim c.if-is_spent.branch [
  | then-is_spent w ↦
      w.slots-is
      ∙ record_next c.args.part_no c.args.part.now c.args.group_no c.args.group.now c.args.key.0 c.loop-at.at (c.loop-at.at + 1) c.loop-at.slots
      w.with_slot-slots.result (1008 * w.from.result + c.loop-at.at) refl c.loop-at.invariant
      (ap (λ (n : ℕ). is_spent n c.args.group_no c.args.group.now)
      (index_got (numbers c.args.part.now) c.loop-at.at c.number.result c.number.ensures) ∙ sym c.is_spent.ensures ∙ w.if-is_spent.true)
      (row_is c.args.part_no w.from.result c.loop-at.at w.from.ensures) w.with_slot-slots.ensures
  | else-is_spent w ↦
      w.slots-is
      ∙ record_same c.args.part_no c.args.part.now c.args.group_no c.args.group.now c.args.key.0 c.loop-at.at (c.loop-at.at + 1) c.loop-at.slots refl
      c.loop-at.invariant
      (ap (λ (n : ℕ). is_spent n c.args.group_no c.args.group.now)
      (index_got (numbers c.args.part.now) c.loop-at.at c.number.result c.number.ensures) ∙ sym c.is_spent.ensures ∙ w.if-is_spent.false)
]

pub returns : goal.returns
returns c =
    at_end (λ (n : ℕ). c.loop-at.slots ≡ slots_record c.args.key.0 (gathered c.args.part_no c.args.part.now c.args.group_no c.args.group.now n))
    c.loop-at.at c.loop-at-test.false c.loop-at.auto.at-end c.loop-at.invariant
