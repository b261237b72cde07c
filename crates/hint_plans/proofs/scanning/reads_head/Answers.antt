use Rattle.std.proofs.Common.{◌∙◌, ap, subst, sym}
use Rattle.vol_base.specs.declared.command.Command.TheVariants.{Scan}
use Rattle.disk_locks.specs.Consistent.{Consistent}
use Rattle.plan_parts.specs.laws.CutCallLaws.{cut_weaker}
use Rattle.hint_plans.specs.Plans.{Agrees, HasCome}
use Rattle.hint_plans.specs.Scans.{behind_scan}
use Rattle.hint_plans.specs.declared.plan.Come.{Come}
use Rattle.hint_plans.specs.declared.plan.Doing.TheVariants.{ReadsHead}
use Rattle.hint_plans.specs.laws.ScanBlocks.{head_came, head_looks}
use Rattle.hint_plans.proofs.scanning.reads_head.Goals as goal

pub first_scan-requires-clause-can : goal.first_scan-requires-clause-can
first_scan-requires-clause-can g c =
    head_looks c.args.world.now c.fetch-read.new.world c.args.host c.args.file c.args.index c.args.pending.now c.in-Ok.kept
    (subst Consistent c.locks.ensures c.geometry-geometry.ensures.consistent)
    (subst Consistent c.locks-2.ensures c.geometry-geometry-2.ensures.consistent) c.requires.stands c.in-Ok.ensures.went

pub returns-in-Ok-clause-came : goal.returns-in-Ok-clause-came
returns-in-Ok-clause-came g c =
    subst (λ (come : Come). HasCome c.args.host c.args.world.now c.fetch-read.new.world c.args.pending.now c.args.pending.now
    (ReadsHead c.args.file c.args.index) come)
    (sym (c.behind_scan.ensures ∙ ap behind_scan c.first_scan.ensures))
    (head_came c.args.world.now c.fetch-read.new.world c.args.host c.args.file c.args.index c.args.pending.now c.in-Ok.kept
    (subst Consistent c.locks.ensures c.geometry-geometry.ensures.consistent)
    (subst Consistent c.locks-2.ensures c.geometry-geometry-2.ensures.consistent) c.requires.stands c.in-Ok.ensures.went)

pub returns-in-Err-clause-cut : goal.returns-in-Err-clause-cut
returns-in-Err-clause-cut g c =
    cut_weaker (Scan c.args.file c.args.index) c.args.world.now c.fetch-read.new.world c.args.host c.in-Err.why
    (Agrees c.args.host c.args.world.now c.args.pending.now.entries (ReadsHead c.args.file c.args.index))
    (c.in-Err.ensures.cut (Scan c.args.file c.args.index))
