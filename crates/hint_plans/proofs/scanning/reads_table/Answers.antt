use Rattle.std.proofs.Common.{◌≤◌, ◌∙◌, ◌+◌, ◌-◌, ℕ, ap, arith, subst, sym}
use Rattle.vol_base.specs.declared.command.Command.TheVariants.{Scan}
use Rattle.vol_layout.specs.Ranges as ranges
use Rattle.disk_locks.specs.Consistent.{Consistent}
use Rattle.plan_parts.specs.laws.CutCallLaws.{cut_weaker}
use Rattle.hint_plans.specs.Plans.{Agrees, HasCome}
use Rattle.hint_plans.specs.Scans.{CanLook, behind_scan, looked_at}
use Rattle.hint_plans.specs.declared.plan.Come.{Come}
use Rattle.hint_plans.specs.declared.plan.Doing.TheVariants.{ReadsTable}
use Rattle.hint_plans.specs.laws.ScanBlocks.{next_index, table_came, table_looks, upto_few}
use Rattle.hint_plans.proofs.scanning.reads_table.Goals as goal

pub overflow_add-at : goal.overflow_add-at
overflow_add-at g c =
    let below = (next_index c.args.world.now c.args.host c.args.scan (subst Consistent c.locks.ensures c.geometry.ensures.consistent)
    c.requires.stands.at.0 c.requires.stands.at.1).1 in omega (arith, below)

pub covered-upto-requires : goal.covered-upto-requires
covered-upto-requires g c =
    let below = (next_index c.args.world.now c.args.host c.args.scan (subst Consistent c.locks.ensures c.geometry.ensures.consistent)
    c.requires.stands.at.0 c.requires.stands.at.1).1 in omega (arith, below)

pub look-requires-clause-more : goal.look-requires-clause-more
unfolding ranges.per_table
look-requires-clause-more g c =
    subst (λ (n : ℕ). c.args.scan.looked ≤ n) (sym c.covered-upto.ensures)
    (upto_few c.args.world.now c.fetch-read.new.world c.args.host c.args.scan c.table_of-which.result c.args.pending.now c.in-Ok.kept
    (subst Consistent c.locks.ensures c.geometry.ensures.consistent)
    (subst Consistent c.locks-2.ensures c.geometry-geometry.ensures.consistent) c.requires.stands c.table_of-which.ensures.table
    c.in-Ok.ensures.went).0

pub look-requires-clause-can : goal.look-requires-clause-can
unfolding ranges.per_table
look-requires-clause-can g c =
    subst (λ (n : ℕ). CanLook c.in-Ok.kept.table c.args.scan.file (c.args.scan.index + c.args.scan.looked) (n - c.args.scan.looked))
    (sym c.covered-upto.ensures)
    (table_looks c.args.world.now c.fetch-read.new.world c.args.host c.args.scan c.table_of-which.result c.args.pending.now c.in-Ok.kept
    (subst Consistent c.locks.ensures c.geometry.ensures.consistent)
    (subst Consistent c.locks-2.ensures c.geometry-geometry.ensures.consistent) c.requires.stands c.table_of-which.ensures.table
    c.in-Ok.ensures.went)

pub returns-in-Ok-clause-came : goal.returns-in-Ok-clause-came
unfolding ranges.per_table
returns-in-Ok-clause-came g c =
    subst (λ (come : Come). HasCome c.args.host c.args.world.now c.fetch-read.new.world c.args.pending.now c.args.pending.now
    (ReadsTable c.args.scan) come)
    (sym (c.behind_scan.ensures ∙ ap behind_scan (c.look.ensures ∙ ap (looked_at c.in-Ok.kept.table c.args.scan) c.covered-upto.ensures)))
    (table_came c.args.world.now c.fetch-read.new.world c.args.host c.args.scan c.table_of-which.result c.args.pending.now c.in-Ok.kept
    (subst Consistent c.locks.ensures c.geometry.ensures.consistent)
    (subst Consistent c.locks-2.ensures c.geometry-geometry.ensures.consistent) c.requires.stands c.table_of-which.ensures.table
    c.in-Ok.ensures.went)

pub returns-in-Err-clause-cut : goal.returns-in-Err-clause-cut
returns-in-Err-clause-cut g c =
    cut_weaker (Scan c.args.scan.file c.args.scan.index) c.args.world.now c.fetch-read.new.world c.args.host c.in-Err.why
    (Agrees c.args.host c.args.world.now c.args.pending.now.entries (ReadsTable c.args.scan))
    (c.in-Err.ensures.cut (Scan c.args.scan.file c.args.scan.index))
