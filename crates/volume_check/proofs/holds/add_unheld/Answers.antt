use Rattle.std.proofs.Common.{ap, arith}
use Rattle.vol_layout.specs.Regions.{total}
use Rattle.volume_check.proofs.SiteLaws.{before_more, kind_found, kind_there, none_before, stage_of_places}
use Rattle.volume_check.proofs.holds.add_unheld.Goals as goal

pub loop-place-init : goal.loop-place-init
loop-place-init c = none_before 3 c.args.metadata.now c.args.faults.now.items

pub unwrap-kind-requires : goal.unwrap-kind-requires
unwrap-kind-requires c =
    let inside = c.loop-place-test.true in
    let end = c.total-place-end.ensures.blocks in
    kind_found c.kind.result _ c.kind.ensures.none (λ past. absurd (omega arith))

pub add_at-requires-clause-kind : goal.add_at-requires-clause-kind
add_at-requires-clause-kind c =
    (kind_there c.args.metadata.now c.geometry-geometry.result c.kind.result c.unwrap-kind.result c.loop-place.place c.geometry-geometry.ensures.geometry c.unwrap-kind.ensures c.kind.ensures.place).0

pub loop-place-preserved : goal.loop-place-preserved
loop-place-preserved c =
    let there = kind_there c.args.metadata.now c.geometry-geometry.result c.kind.result c.unwrap-kind.result c.loop-place.place c.geometry-geometry.ensures.geometry c.unwrap-kind.ensures c.kind.ensures.place in
    before_more 3 c.args.metadata.now c.unwrap-kind.result c.loop-place.place c.args.faults.now.items c.loop-place.faults.items c.add_at.new.faults.items there.0 there.1 c.loop-place.invariant c.in_ok-add_at.ensures

pub returns : goal.returns
returns c =
    let end = c.total-place-end.ensures.blocks in
    let same = ap total c.geometry-geometry.ensures.geometry in
    stage_of_places 3 c.args.metadata.now c.loop-place.place c.args.faults.now.items c.loop-place.faults.items (omega arith) c.loop-place.invariant
