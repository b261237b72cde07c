use Rattle.std.proofs.Common.{◌≡◌, sum_by, ap, subst, ◌∙◌, arith}
use Rattle.std.specs.List.{range_with_len}
use Rattle.vol_layout.specs.declared.field.Field.TheVariants.{Pointer}
use Rattle.vol_layout.specs.Ranges.{limit}
use Rattle.image_view.specs.Balances.{share}
use Rattle.image_view.specs.Numbers.{logical}
use Rattle.volume_check.specs.Counts.{Grew}
use Rattle.volume_check.proofs.SumsOver.{Grew-more, Grew-start, room_for_one, share_le}
use Rattle.volume_check.proofs.uses.count_pointers.Goals as goal

pub loop-index-init : goal.loop-index-init
loop-index-init c = Grew-start (λ i d. share (logical c.args.metadata.now.geometry c.args.metadata.now.image (Pointer c.args.file i)) d) c.args.uses.now.items

pub count-requires-clause-names : goal.count-requires-clause-names
count-requires-clause-names c =
    let long = c.loop-index.invariant.long ∙ c.requires.long in
    omega (arith, c.logical-pointer.ensures.range.names)

pub count-requires-clause-room : goal.count-requires-clause-room
count-requires-clause-room c =
    room_for_one (λ i d. share (logical c.args.metadata.now.geometry c.args.metadata.now.image (Pointer c.args.file i)) d) c.loop-index.index c.args.uses.now.items c.loop-index.uses.items c.loop-index.invariant (λ i d. share_le (logical c.args.metadata.now.geometry c.args.metadata.now.image (Pointer c.args.file i)) d)
    (omega (arith, c.limit-index-end.ensures.bounded)) c.requires.room

pub loop-index-preserved : goal.loop-index-preserved
loop-index-preserved c =
    Grew-more (λ i d. share (logical c.args.metadata.now.geometry c.args.metadata.now.image (Pointer c.args.file i)) d) c.loop-index.index c.args.uses.now.items c.loop-index.uses.items c.count.new.uses.items c.loop-index.invariant
    (subst (λ n. Grew (share n) c.loop-index.uses.items c.count.new.uses.items) c.logical-pointer.ensures.number c.count.ensures)

pub returns : goal.returns
returns c =
    let same = c.limit-index-end.ensures.blocks ∙ ap limit c.geometry.ensures.geometry in
    let end : c.loop-index.index ≡ limit c.args.metadata.now.geometry = omega arith in
    subst (λ n. Grew (λ d. sum_by (λ i. share (logical c.args.metadata.now.geometry c.args.metadata.now.image (Pointer c.args.file i)) d) (range_with_len 0 n)) c.args.uses.now.items c.loop-index.uses.items) end c.loop-index.invariant
