use Rattle.std.proofs.Common.{◌≡◌, ◌∙◌, ap, false, subst, sym}
use Rattle.vol_base.specs.declared.command.Command.TheVariants.{Scan}
use Rattle.vol_layout.specs.declared.kind.Resource.TheVariants.{File}
use Rattle.lock_store.specs.declared.answers.StepNo.{StepNo}
use Rattle.lock_store.specs.Memories.{holds}
use Rattle.lock_store.specs.Views.{LocksView, host_at}
use Rattle.disk_locks.specs.Consistent.{Consistent}
use Rattle.plan_parts.specs.declared.take_write.TakeWrite.{TakeWrite}
use Rattle.plan_parts.specs.laws.HoldStarts.{first_write}
use Rattle.hint_plans.specs.Plans.{Agrees, HasCome, IsCutAt, PlanStands}
use Rattle.hint_plans.specs.declared.plan.Doing.TheVariants.{BeginsScan, HoldsFile, ReadsHead}
use Rattle.hint_plans.specs.laws.BeginLaws.{cut_from, errs_begin, head_begins, head_noted, hold_begins, hold_noted, hold_stands, oks_begin}
use Rattle.hint_plans.proofs.scanning.begins.Goals as goal

pub holds_file-requires : goal.holds_file-requires
holds_file-requires g c =
    let v = c.args.world.now in
    let h = c.args.host in
    let out : holds (host_at v.locks h) (File c.args.file) ≡ false =
    sym (ap (λ (l : LocksView). holds (host_at l h) (File c.args.file)) c.locks-2.ensures) ∙ sym c.holds.ensures ∙ c.if-holds.false in
    record {
      stands = subst (λ (t : TakeWrite). PlanStands v h c.args.pending.now (HoldsFile c.args.file c.args.index t)) (sym c.new-taking.ensures)
          (hold_stands v v h c.args.file c.args.index c.args.pending.now (subst Consistent c.locks.ensures c.geometry-geometry.ensures.consistent)
          c.requires.stands out);
    }

pub returns-then-holds-clause-came : goal.returns-then-holds-clause-came
returns-then-holds-clause-came g c =
    oks_begin c.reads_head.result
    (HasCome c.args.host c.args.world.now c.reads_head.new.world c.args.pending.now c.args.pending.now (ReadsHead c.args.file c.args.index))
    (HasCome c.args.host c.args.world.now c.reads_head.new.world c.args.pending.now c.args.pending.now (BeginsScan c.args.file c.args.index))
    (head_begins c.args.world.now c.reads_head.new.world c.args.host c.args.file c.args.index c.args.pending.now) c.reads_head.ensures.came

pub returns-then-holds-clause-cut : goal.returns-then-holds-clause-cut
returns-then-holds-clause-cut g c =
    errs_begin c.reads_head.result
    (IsCutAt c.args.host c.args.world.now c.reads_head.new.world c.args.pending.now.entries (ReadsHead c.args.file c.args.index))
    (IsCutAt c.args.host c.args.world.now c.reads_head.new.world c.args.pending.now.entries (BeginsScan c.args.file c.args.index))
    (λ (why : StepNo) cut.
    cut_from (Scan c.args.file c.args.index) c.args.host c.args.world.now c.reads_head.new.world why
    (Agrees c.args.host c.args.world.now c.args.pending.now.entries (ReadsHead c.args.file c.args.index))
    (Agrees c.args.host c.args.world.now c.args.pending.now.entries (BeginsScan c.args.file c.args.index))
    (head_noted c.args.world.now c.reads_head.new.world c.args.host c.args.file c.args.index c.args.pending.now) cut) c.reads_head.ensures.cut

pub returns-else-holds-clause-came : goal.returns-else-holds-clause-came
returns-else-holds-clause-came g c =
    oks_begin c.holds_file.result
    (HasCome c.args.host c.args.world.now c.holds_file.new.world c.args.pending.now c.args.pending.now
    (HoldsFile c.args.file c.args.index (first_write c.args.world.now c.args.host c.args.file)))
    (HasCome c.args.host c.args.world.now c.holds_file.new.world c.args.pending.now c.args.pending.now (BeginsScan c.args.file c.args.index))
    (hold_begins c.args.world.now c.holds_file.new.world c.args.host c.args.file c.args.index c.args.pending.now)
    (rw c.new-taking.ensures at c.holds_file.ensures.came)

pub returns-else-holds-clause-cut : goal.returns-else-holds-clause-cut
returns-else-holds-clause-cut g c =
    errs_begin c.holds_file.result
    (IsCutAt c.args.host c.args.world.now c.holds_file.new.world c.args.pending.now.entries
    (HoldsFile c.args.file c.args.index (first_write c.args.world.now c.args.host c.args.file)))
    (IsCutAt c.args.host c.args.world.now c.holds_file.new.world c.args.pending.now.entries (BeginsScan c.args.file c.args.index))
    (λ (why : StepNo) cut.
    cut_from (Scan c.args.file c.args.index) c.args.host c.args.world.now c.holds_file.new.world why
    (Agrees c.args.host c.args.world.now c.args.pending.now.entries
    (HoldsFile c.args.file c.args.index (first_write c.args.world.now c.args.host c.args.file)))
    (Agrees c.args.host c.args.world.now c.args.pending.now.entries (BeginsScan c.args.file c.args.index))
    (hold_noted c.args.world.now c.holds_file.new.world c.args.host c.args.file c.args.index c.args.pending.now) cut)
    (rw c.new-taking.ensures at c.holds_file.ensures.cut)
