use Rattle.std.proofs.Common.{◌≡◌, ◌+◌, length, ap, ◌∙◌, arith}
use Rattle.vol_layout.specs.declared.geometry.Geometry.{Geometry}
use Rattle.vol_layout.specs.declared.kind.Kind.TheVariants as kinds
use Rattle.vol_layout.specs.Places.{place_of}
use Rattle.image_view.specs.Numbers.{journal}
use Rattle.volume_check.proofs.HoldLaws.{edits_end, record_edit_added, record_key_added}
use Rattle.volume_check.proofs.PassedLaws.{edit_in_range}
use Rattle.volume_check.proofs.SiteLaws.{all_entries}
use Rattle.volume_check.proofs.records.add_of_record.Goals as goal

pub loop-index-init : goal.loop-index-init
loop-index-init c =
    let place = c.place-place.ensures.place ∙ ap (λ (g : Geometry). place_of g (kinds.Journal c.args.host)) c.geometry.ensures.geometry in
    record_key_added c.args.metadata.now c.args.host c.args.entry.now c.place-place.result c.key-key.result.0 c.shows-shown.result c.args.faults.now.items c.add_where.new.faults.items c.requires.entry c.count-index-end.ensures.well_formed.some
    place c.key-key.ensures c.shows-shown.ensures c.in_ok-add_where.ensures

pub is_borne_out-right-requires : goal.is_borne_out-right-requires
is_borne_out-right-requires c = (edit_in_range c.args.metadata.now c.args.host c.loop-index.index c.args.entry.now c.get.result c.requires.passed c.requires.entry c.get.ensures).0

pub loop-index-preserved : goal.loop-index-preserved
loop-index-preserved c =
    let place = c.place-place.ensures.place ∙ ap (λ (g : Geometry). place_of g (kinds.Journal c.args.host)) c.geometry.ensures.geometry in
    record_edit_added c.args.metadata.now c.args.host c.loop-index.index c.args.entry.now c.get.result c.place-place.result c.is_borne_out-right.result c.args.faults.now.items c.loop-index.faults.items c.add_where-in-loop-index.new.faults.items
    c.requires.entry c.get.ensures place c.is_borne_out-right.ensures c.in_ok-add_where-2.ensures c.loop-index.invariant

pub returns : goal.returns
returns c =
    let end = c.count-index-end.ensures.value in
    let long = ap length c.requires.entry.edits in
    let last : c.loop-index.index ≡ length (journal c.args.metadata.now.geometry c.args.metadata.now.image c.args.host) = omega arith in
    all_entries 3 c.args.metadata.now (kinds.Journal c.args.host) (c.loop-index.index + 1) c.args.faults.now.items c.loop-index.faults.items (edits_end c.args.metadata.now c.args.host c.loop-index.index last) c.loop-index.invariant
