use Rattle.std.proofs.Common.{refl, subst, sym}
use Rattle.vol_base.specs.declared.command.Command.TheVariants.{Scan}
use Rattle.disk_locks.specs.Consistent.{Consistent}
use Rattle.plan_parts.specs.Holds.{NotedWrite}
use Rattle.hint_plans.specs.Plans.{Agrees, HasCome}
use Rattle.hint_plans.specs.declared.plan.Come.{Come}
use Rattle.hint_plans.specs.declared.plan.Doing.TheVariants.{HoldsFile}
use Rattle.hint_plans.specs.laws.BeginLaws.{cut_from, hold_has}
use Rattle.hint_plans.proofs.scanning.holds_file.Goals as goal

pub returns-in-Ok-clause-came : goal.returns-in-Ok-clause-came
returns-in-Ok-clause-came g c =
    let v = c.args.world.now in
    let w = c.next-came.new.world in
    subst (λ (come : Come). HasCome c.args.host v w c.args.pending.now c.args.pending.now (HoldsFile c.args.file c.args.index c.args.taking) come)
    (sym c.behind_hold.ensures)
    (hold_has v w c.args.host c.args.file c.args.index c.args.taking c.args.pending.now
    (subst Consistent c.locks.ensures c.geometry-geometry.ensures.consistent)
    (subst Consistent c.locks-2.ensures c.geometry-geometry-2.ensures.consistent) c.requires.stands c.in-Ok.ensures.others c.in-Ok.taken
    c.in-Ok.ensures.went)

pub returns-in-Err-clause-cut : goal.returns-in-Err-clause-cut
returns-in-Err-clause-cut g c =
    let v = c.args.world.now in
    cut_from (Scan c.args.file c.args.index) c.args.host v c.next-came.new.world c.in-Err.why
    (λ n. NotedWrite (Scan c.args.file c.args.index) c.args.host v c.args.taking n)
    (λ n. Agrees c.args.host v c.args.pending.now.entries (HoldsFile c.args.file c.args.index c.args.taking) n) (λ n noted. noted.0)
    (c.in-Err.ensures.cut (Scan c.args.file c.args.index) (refl, refl))
