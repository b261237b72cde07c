use Rattle.std.proofs.Common.{subst}
use Rattle.vol_base.specs.declared.command.Command.TheVariants.{Scan}
use Rattle.vol_layout.specs.declared.field.Field.TheVariants.{Pointer}
use Rattle.disk_locks.specs.Consistent.{Consistent}
use Rattle.plan_parts.specs.laws.BlockLaws.{cut_block}
use Rattle.plan_parts.specs.laws.CutCallLaws.{cut_weaker}
use Rattle.hint_plans.specs.Plans.{Agrees}
use Rattle.hint_plans.specs.declared.plan.Doing.TheVariants.{ReadsBlock}
use Rattle.hint_plans.specs.laws.ScanBlocks.{block_came}
use Rattle.hint_plans.specs.laws.ScanLaws.{may_name}
use Rattle.hint_plans.proofs.scanning.reads_next.Goals as goal

pub read_number-read-requires-clause-named : goal.read_number-read-requires-clause-named
read_number-read-requires-clause-named g c = (
  Pointer c.args.scan.file c.get-next.result.index,
  (may_name c.args.world.now c.args.host c.args.scan c.requires.stands.at.0 c.args.scan.done c.get-next.result c.get-next.ensures).1,
)

pub returns-in-Ok-clause-came : goal.returns-in-Ok-clause-came
returns-in-Ok-clause-came g c =
    block_came c.args.world.now c.read_number-read.new.self c.args.host c.args.scan c.get-next.result c.in-Ok.block c.args.pending.now
    (subst Consistent c.locks.ensures c.geometry-geometry.ensures.consistent)
    (subst Consistent c.locks-2.ensures c.geometry-geometry-2.ensures.consistent) c.requires.stands c.get-next.ensures c.requires.some
    c.in-Ok.ensures.did c.in-Ok.ensures.looked c.in-Ok.ensures.others

pub returns-in-Err-clause-cut : goal.returns-in-Err-clause-cut
returns-in-Err-clause-cut g c =
    let v = c.args.world.now in
    let w = c.read_number-read.new.self in
    cut_weaker (Scan c.args.scan.file c.args.scan.index) v w c.args.host c.in-Err.why
    (Agrees c.args.host v c.args.pending.now.entries (ReadsBlock c.args.scan))
    (cut_block v w c.args.host c.get-next.result.number c.in-Err.why c.in-Err.ensures.others c.in-Err.ensures.did
    (Scan c.args.scan.file c.args.scan.index))
