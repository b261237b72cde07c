use Rattle.std.proofs.Common.{◌≡◌, sum_by, ap, subst, ◌∙◌, arith}
use Rattle.std.specs.List.{range_with_len}
use Rattle.vol_layout.specs.declared.geometry.Geometry.{Geometry}
use Rattle.vol_layout.specs.Ranges.{IsGeometry, data_blocks}
use Rattle.volume_check.specs.Counts.{Grew, named_by_file}
use Rattle.volume_check.proofs.SumsOver.{Grew-more, Grew-start, replicate_zeros, room_for_file, uses_counted}
use Rattle.volume_check.proofs.uses.uses.Goals as goal

pub loop-file-init : goal.loop-file-init
loop-file-init c = Grew-start (λ f d. named_by_file c.args.metadata.now f d) c.in_ok-uses.uses.items

pub count_pointers-requires-clause-long : goal.count_pointers-requires-clause-long
count_pointers-requires-clause-long c =
    let zeros = replicate_zeros c.data_blocks.result c.in_ok-uses.uses.items (c.in_ok-uses.ensures.items_if_clones_equal (λ y is. cc)) in
    c.loop-file.invariant.long ∙ zeros.long ∙ c.data_blocks.ensures.blocks ∙ ap data_blocks c.geometry-geometry.ensures.geometry

pub count_pointers-requires-clause-room : goal.count_pointers-requires-clause-room
count_pointers-requires-clause-room c =
    let zeros = replicate_zeros c.data_blocks.result c.in_ok-uses.uses.items (c.in_ok-uses.ensures.items_if_clones_equal (λ y is. cc)) in
    room_for_file c.args.metadata.now c.loop-file.file c.data_blocks.result c.in_ok-uses.uses.items c.loop-file.uses.items c.loop-file.invariant zeros (subst IsGeometry c.geometry-geometry.ensures.geometry c.geometry-geometry.ensures.range)
    (omega (arith, c.geometry-geometry.ensures.range.files.1))

pub loop-file-preserved : goal.loop-file-preserved
loop-file-preserved c =
    Grew-more (λ f d. named_by_file c.args.metadata.now f d) c.loop-file.file c.in_ok-uses.uses.items c.loop-file.uses.items c.count_pointers.new.uses.items c.loop-file.invariant c.count_pointers.ensures

pub count_slots-requires-clause-long : goal.count_slots-requires-clause-long
count_slots-requires-clause-long c =
    let zeros = replicate_zeros c.data_blocks.result c.in_ok-uses.uses.items (c.in_ok-uses.ensures.items_if_clones_equal (λ y is. cc)) in
    c.loop-file.invariant.long ∙ zeros.long ∙ c.data_blocks.ensures.blocks ∙ ap data_blocks c.geometry-geometry.ensures.geometry

pub count_slots-requires-clause-room : goal.count_slots-requires-clause-room
count_slots-requires-clause-room c =
    let zeros = replicate_zeros c.data_blocks.result c.in_ok-uses.uses.items (c.in_ok-uses.ensures.items_if_clones_equal (λ y is. cc)) in
    room_for_file c.args.metadata.now c.loop-file.file c.data_blocks.result c.in_ok-uses.uses.items c.loop-file.uses.items c.loop-file.invariant zeros (subst IsGeometry c.geometry-geometry.ensures.geometry c.geometry-geometry.ensures.range)
    (omega (arith, c.geometry-geometry.ensures.range.files.1))

pub returns : goal.returns
returns c =
    let zeros = replicate_zeros c.data_blocks.result c.in_ok-uses.uses.items (c.in_ok-uses.ensures.items_if_clones_equal (λ y is. cc)) in
    let same : c.geometry-geometry.result.files ≡ c.args.metadata.now.geometry.files = ap (λ (g : Geometry). g.files) c.geometry-geometry.ensures.geometry in
    let end : c.loop-file.file ≡ c.args.metadata.now.geometry.files = omega arith in
    uses_counted c.args.metadata.now c.in_ok-uses.uses.items c.loop-file.uses.items c.count_slots.new.uses.items (zeros.long ∙ c.data_blocks.ensures.blocks ∙ ap data_blocks c.geometry-geometry.ensures.geometry) zeros.each
    (subst (λ n. Grew (λ d. sum_by (λ f. named_by_file c.args.metadata.now f d) (range_with_len 0 n)) c.in_ok-uses.uses.items c.loop-file.uses.items) end c.loop-file.invariant)
    c.count_slots.ensures
