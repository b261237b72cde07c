use Rattle.std.proofs.Common.{◌≡◌, sum_by, ap, subst, ◌∙◌, arith}
use Rattle.std.specs.List.{range_with_len}
use Rattle.vol_layout.specs.declared.field.Field.TheVariants.{Slot}
use Rattle.vol_layout.specs.Ranges.{arena_slots}
use Rattle.image_view.specs.Balances.{share}
use Rattle.image_view.specs.Numbers.{logical}
use Rattle.volume_check.specs.Counts.{Grew}
use Rattle.volume_check.proofs.SumsOver.{Grew-more, Grew-start, room_for_one, share_le}
use Rattle.volume_check.proofs.uses.count_slots.Goals as goal

pub loop-slot-init : goal.loop-slot-init
loop-slot-init c = Grew-start (λ i d. share (logical c.args.metadata.now.geometry c.args.metadata.now.image (Slot i)) d) c.args.uses.now.items

pub count-requires-clause-names : goal.count-requires-clause-names
count-requires-clause-names c =
    let long = c.loop-slot.invariant.long ∙ c.requires.long in
    omega (arith, c.logical.ensures.range)

pub count-requires-clause-room : goal.count-requires-clause-room
count-requires-clause-room c =
    room_for_one (λ i d. share (logical c.args.metadata.now.geometry c.args.metadata.now.image (Slot i)) d) c.loop-slot.slot c.args.uses.now.items c.loop-slot.uses.items c.loop-slot.invariant (λ i d. share_le (logical c.args.metadata.now.geometry c.args.metadata.now.image (Slot i)) d)
    (omega (arith, c.arena_slots-slot-end.ensures.bounded)) c.requires.room

pub loop-slot-preserved : goal.loop-slot-preserved
loop-slot-preserved c =
    Grew-more (λ i d. share (logical c.args.metadata.now.geometry c.args.metadata.now.image (Slot i)) d) c.loop-slot.slot c.args.uses.now.items c.loop-slot.uses.items c.count.new.uses.items c.loop-slot.invariant
    (subst (λ n. Grew (share n) c.loop-slot.uses.items c.count.new.uses.items) c.logical.ensures.number c.count.ensures)

pub returns : goal.returns
returns c =
    let same = c.arena_slots-slot-end.ensures.slots ∙ ap arena_slots c.geometry.ensures.geometry in
    let end : c.loop-slot.slot ≡ arena_slots c.args.metadata.now.geometry = omega arith in
    subst (λ n. Grew (λ d. sum_by (λ i. share (logical c.args.metadata.now.geometry c.args.metadata.now.image (Slot i)) d) (range_with_len 0 n)) c.args.uses.now.items c.loop-slot.uses.items) end c.loop-slot.invariant
