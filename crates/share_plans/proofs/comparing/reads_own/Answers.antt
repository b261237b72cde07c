use Rattle.std.proofs.Common.{refl, subst, sym}
use Rattle.vol_layout.specs.declared.kind.Kind.TheVariants as kinds
use Rattle.disk_locks.specs.Consistent.{Consistent}
use Rattle.vol_layout.specs.declared.field.Field.TheVariants.{Pointer}
use Rattle.share_plans.specs.declared.stage.Stage.TheVariants as stages
use Rattle.share_plans.specs.Went.{Went}
use Rattle.share_plans.specs.laws.CompareStageLaws.{own_read, pointer_named}
use Rattle.plan_parts.specs.laws.BlockLaws.{quiet_block}
use Rattle.share_plans.specs.laws.SpareLaws.{spares_place}
use Rattle.share_plans.specs.laws.StillLaws.{pair_has}
use Rattle.share_plans.specs.Stands.{known_of}
use Rattle.share_plans.proofs.comparing.reads_own.Goals as goal

pub read_number-came-requires-clause-named : goal.read_number-came-requires-clause-named
read_number-came-requires-clause-named g c =
    let at = c.requires.stands in (
      Pointer c.args.core.now.file c.args.core.now.index,
      pointer_named c.args.world.now c.args.core.now.host c.args.core.now.tables
          (subst Consistent c.locks.ensures c.geometry-geometry.ensures.consistent)
          at.0.base.kept at.0.base.empty c.args.core.now.file c.args.core.now.index c.args.pair.own at.0.base.places.is_host.held at.0.are_pair.own,
    )

pub returns-in-Ok-clause-went : goal.returns-in-Ok-clause-went
returns-in-Ok-clause-went g c =
    let at = c.requires.stands in
    let is = subst Consistent c.locks.ensures c.geometry-geometry.ensures.consistent in
    let has = pair_has c.args.world.now.locks.geometry (known_of c.args.core.now)
    c.args.core.now.file c.args.core.now.index c.args.core.now.source c.args.pair at.0.are_pair in
    subst (Went c.args.world.now c.read_number-came.new.self c.args.core.now c.args.core.now (stages.ReadsOwn c.args.pair c.args.source))
    (sym c.behind_compare.ensures)
    (own_read c.args.world.now c.read_number-came.new.self c.args.core.now c.args.pair c.in-Ok.ensures.looked c.args.source c.in-Ok.block
    c.first_apart.result _ (subst Consistent c.locks-2.ensures c.geometry-geometry-2.ensures.consistent)
    (spares_place c.args.world.now.locks.geometry (kinds.Number c.args.pair.own) has.0 refl)
    (quiet_block c.args.world.now c.read_number-came.new.self c.args.core.now.host c.args.pair.own c.in-Ok.block is has.0 c.in-Ok.ensures.did
    c.in-Ok.ensures.others) at
    (c.in-Ok.ensures.block (Pointer c.args.core.now.file c.args.core.now.index)
    (pointer_named c.args.world.now c.args.core.now.host c.args.core.now.tables is at.0.base.kept at.0.base.empty c.args.core.now.file
    c.args.core.now.index c.args.pair.own at.0.base.places.is_host.held at.0.are_pair.own)) c.first_apart.ensures.some c.first_apart.ensures.none)
