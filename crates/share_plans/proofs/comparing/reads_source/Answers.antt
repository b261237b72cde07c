use Rattle.std.proofs.Common.{refl, subst}
use Rattle.vol_layout.specs.declared.kind.Kind.TheVariants as kinds
use Rattle.disk_locks.specs.Consistent.{Consistent}
use Rattle.share_plans.specs.Places.{field_of}
use Rattle.share_plans.specs.laws.CompareStageLaws.{source_named, source_read}
use Rattle.plan_parts.specs.laws.BlockLaws.{quiet_block}
use Rattle.share_plans.specs.laws.SpareLaws.{spares_place}
use Rattle.share_plans.specs.laws.StillLaws.{pair_has}
use Rattle.share_plans.specs.Stands.{known_of}
use Rattle.share_plans.proofs.comparing.reads_source.Goals as goal

pub read_number-came-requires-clause-named : goal.read_number-came-requires-clause-named
read_number-came-requires-clause-named g c =
    let at = c.requires.stands in (
      field_of c.args.core.now.source,
      source_named c.args.world.now c.args.core.now.host c.args.core.now.tables
          (subst Consistent c.locks.ensures c.geometry-geometry.ensures.consistent)
          at.0.base.kept at.0.base.empty c.args.core.now.source c.args.pair.source c.args.pair.shared at.0.base.places.from at.0.are_pair.from at.1,
    )

pub returns-in-Ok-clause-went : goal.returns-in-Ok-clause-went
returns-in-Ok-clause-went g c =
    let at = c.requires.stands in
    let is = subst Consistent c.locks.ensures c.geometry-geometry.ensures.consistent in
    let has = pair_has c.args.world.now.locks.geometry (known_of c.args.core.now)
    c.args.core.now.file c.args.core.now.index c.args.core.now.source c.args.pair at.0.are_pair in
    source_read c.args.world.now c.read_number-came.new.self c.args.core.now c.args.pair c.in-Ok.ensures.looked c.in-Ok.block _
    (spares_place c.args.world.now.locks.geometry (kinds.Number c.args.pair.source) has.1 refl)
    (quiet_block c.args.world.now c.read_number-came.new.self c.args.core.now.host c.args.pair.source c.in-Ok.block is has.1 c.in-Ok.ensures.did
    c.in-Ok.ensures.others) at
    (c.in-Ok.ensures.block (field_of c.args.core.now.source)
    (source_named c.args.world.now c.args.core.now.host c.args.core.now.tables is at.0.base.kept at.0.base.empty c.args.core.now.source
    c.args.pair.source c.args.pair.shared at.0.base.places.from at.0.are_pair.from at.1))
