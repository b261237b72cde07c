use Rattle.std.proofs.Common.{◌*◌, ap, ◌∙◌, arith}
use Rattle.vol_layout.specs.declared.geometry.Geometry.{Geometry}
use Rattle.vol_layout.specs.declared.kind.Kind.TheVariants as kinds
use Rattle.vol_layout.specs.declared.kind.Table.{Table}
use Rattle.vol_layout.specs.Places.{place_of}
use Rattle.volume_check.specs.Counts.{file_table}
use Rattle.volume_check.proofs.CountLaws.{mark_added, marks_from, marks_to, named_below, pointer_inside, file_table_parts}
use Rattle.volume_check.proofs.SiteLaws.{all_entries, no_entry}
use Rattle.volume_check.proofs.counting.add_of_marks.Goals as goal

pub place-place-requires-clause-kind : goal.place-place-requires-clause-kind
place-place-requires-clause-kind c = rw (c.geometry.ensures.geometry, c.block_of.ensures) c.requires.table

pub loop-index-init : goal.loop-index-init
loop-index-init c =
    let first = ap (λ n. 1008 * n) c.from-first.ensures in
    no_entry 4 c.args.metadata.now (kinds.Table (file_table c.args.file c.args.table)) (1008 * c.from-first.result) c.args.faults.now.items (marks_from c.args.metadata.now c.args.file c.args.table (1008 * c.from-first.result) first)

pub logical-pointer-requires-clause-what : goal.logical-pointer-requires-clause-what
logical-pointer-requires-clause-what c =
    let first = ap (λ n. 1008 * n) c.from-first.ensures in
    let parts = file_table_parts c.args.metadata.now c.geometry.result c.args.file c.args.table c.geometry.ensures.geometry c.geometry.ensures.range c.requires.table in
    (parts.0, pointer_inside c.args.metadata.now c.args.table c.loop-index.index (1008 * c.from-first.result) first parts.1 c.loop-index-test.true)

pub lacks_mark-requires : goal.lacks_mark-requires
lacks_mark-requires c un =
    let below = named_below c.args.metadata.now.geometry c.logical-pointer.result c.logical-pointer.ensures.range un in
    omega (arith, c.requires.uses.long)

pub loop-index-preserved : goal.loop-index-preserved
loop-index-preserved c =
    let first = ap (λ n. 1008 * n) c.from-first.ensures in
    let place =
    c.place-place.ensures.place ∙ ap (λ (g : Geometry). place_of g (kinds.Table c.block_of.result)) c.geometry.ensures.geometry
    ∙ ap (λ (t : Table). place_of c.args.metadata.now.geometry (kinds.Table t)) c.block_of.ensures in
    let parts = file_table_parts c.args.metadata.now c.geometry.result c.args.file c.args.table c.geometry.ensures.geometry c.geometry.ensures.range c.requires.table in
    mark_added c.args.metadata.now c.args.file c.args.table c.loop-index.index (1008 * c.from-first.result) c.place-place.result c.logical-pointer.result c.args.uses.now c.lacks_mark.result
    c.args.faults.now.items c.loop-index.faults.items c.add_where.new.faults.items c.requires.uses first c.loop-index.auto.index c.loop-index-test.true parts.0 parts.1
    place c.logical-pointer.ensures.number c.logical-pointer.ensures.range c.lacks_mark.ensures c.in_ok-add_where.ensures c.loop-index.invariant

pub returns : goal.returns
returns c =
    let first = ap (λ n. 1008 * n) c.from-first.ensures in
    all_entries 4 c.args.metadata.now (kinds.Table (file_table c.args.file c.args.table)) c.loop-index.index c.args.faults.now.items c.loop-index.faults.items
    (marks_to c.args.metadata.now c.args.file c.args.table (1008 * c.from-first.result) c.loop-index.index first c.loop-index-test.false) c.loop-index.invariant
