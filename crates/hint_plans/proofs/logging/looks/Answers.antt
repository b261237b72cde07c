use Rattle.std.proofs.Common.{◌≡◌, ◌∙◌, ℕ, ap, subst, sym}
use Rattle.vol_layout.specs.declared.geometry.Geometry.{Geometry}
use Rattle.vol_layout.specs.declared.kind.Kind.TheVariants.{Log}
use Rattle.vol_layout.specs.Places.{place_of}
use Rattle.shared_disk.specs.Events.{Reads, Shows}
use Rattle.disk_locks.specs.Consistent.{Consistent}
use Rattle.lock_store.specs.Events.{Did}
use Rattle.lock_store.specs.Views.{LocksView, host_at}
use Rattle.host_runs.specs.HintCauses.{logged_hints}
use Rattle.hint_plans.specs.Logs.{behind_log}
use Rattle.hint_plans.specs.Plans.{Agrees, HasCome}
use Rattle.hint_plans.specs.declared.plan.Come.{Come}
use Rattle.hint_plans.specs.declared.plan.Doing.TheVariants.{ReadsLog}
use Rattle.plan_parts.specs.laws.CutCallLaws.{cut_weaker}
use Rattle.vol_base.specs.declared.command.Command.TheVariants as commands
use Rattle.hint_plans.specs.laws.HintCuts.{read_cut}
use Rattle.hint_plans.specs.laws.LogLaws.{log_read}
use Rattle.hint_plans.proofs.logging.looks.Goals as goal

pub returns-in-Ok-clause-came : goal.returns-in-Ok-clause-came
returns-in-Ok-clause-came g c =
    let v = c.args.world.now in
    let h = c.args.host in
    let same : c.geometry.result.now ≡ v.locks.geometry = c.geometry.ensures.geometry ∙ ap (λ (l : LocksView). l.geometry) c.locks.ensures in
    let here : c.place.result ≡ place_of v.locks.geometry (Log h c.args.log) =
    c.place.ensures.place ∙ ap (λ (x : Geometry). place_of x (Log h c.args.log)) same in
    subst (λ (come : Come). HasCome h v c.read_hint-read.new.self c.args.pending.now c.args.pending.now (ReadsLog c.args.log) come)
    (sym (c.behind_log.ensures ∙ ap (λ (x : Geometry). behind_log x c.args.log (logged_hints x c.in-Ok.block.0)) same))
    (log_read v c.read_hint-read.new.self h c.args.log c.args.pending.now c.in-Ok.block.0
    (subst Consistent c.locks.ensures c.geometry.ensures.consistent)
    (subst Consistent c.locks-2.ensures c.geometry-geometry.ensures.consistent) c.requires.stands c.requires.some
    (subst (λ (p : ℕ). Did v.locks h (Reads p) (Shows c.in-Ok.block.0) (host_at v.locks h) c.read_hint-read.new.self.locks) here c.in-Ok.ensures.did)
    c.in-Ok.ensures.looked c.in-Ok.ensures.others)

pub returns-in-Err-clause-cut : goal.returns-in-Err-clause-cut
returns-in-Err-clause-cut g c =
    let v = c.args.world.now in
    let same : c.geometry.result.now ≡ v.locks.geometry = c.geometry.ensures.geometry ∙ ap (λ (l : LocksView). l.geometry) c.locks.ensures in
    cut_weaker commands.Log v c.read_hint-read.new.self c.args.host c.in-Err.why (Agrees c.args.host v c.args.pending.now.entries (ReadsLog c.args.log))
    (read_cut v c.read_hint-read.new.self c.args.host c.place.result (Log c.args.host c.args.log) c.in-Err.why
    (c.place.ensures.place ∙ ap (λ (x : Geometry). place_of x (Log c.args.host c.args.log)) same) c.in-Err.ensures.others c.in-Err.ensures.did commands.Log)
