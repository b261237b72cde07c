use Rattle.std.proofs.Common.{◌≡◌, ◌∙◌, ℕ, List, [], ap, subst}
use Rattle.vol_layout.specs.declared.geometry.Geometry.{Geometry}
use Rattle.vol_layout.specs.declared.kind.Kind.TheVariants.{Log}
use Rattle.vol_layout.specs.Places.{place_of}
use Rattle.shared_disk.specs.Events.{Done, Writes}
use Rattle.disk_locks.specs.Consistent.{Consistent}
use Rattle.hint_blocks.specs.declared.entry.LogEntry.{LogEntry}
use Rattle.hint_blocks.specs.HintLists.{HintList}
use Rattle.host_facts.specs.Hints.{WroteHint}
use Rattle.lock_store.specs.Events.{Did}
use Rattle.lock_store.specs.Views.{LocksView, host_at}
use Rattle.hint_plans.specs.Plans.{Agrees}
use Rattle.hint_plans.specs.declared.plan.Doing.TheVariants.{WritesLog}
use Rattle.plan_parts.specs.laws.CutCallLaws.{cut_weaker}
use Rattle.vol_base.specs.declared.command.Command.TheVariants as commands
use Rattle.hint_plans.specs.laws.HintCuts.{write_cut}
use Rattle.hint_plans.specs.laws.LogLaws.{logged}
use Rattle.hint_plans.proofs.logging.writes_log.Goals as goal

pub returns-in-Ok-clause-came : goal.returns-in-Ok-clause-came
returns-in-Ok-clause-came g c =
    let v = c.args.world.now in
    let h = c.args.host in
    let w = c.write_hint-wrote.new.self in
    let same : c.geometry.result.now ≡ v.locks.geometry = c.geometry.ensures.geometry ∙ ap (λ (l : LocksView). l.geometry) c.locks.ensures in
    let here : c.place.result ≡ place_of v.locks.geometry (Log h c.args.log) =
    c.place.ensures.place ∙ ap (λ (x : Geometry). place_of x (Log h c.args.log)) same in
    let block = c.take_out-block.ensures.block in
    logged v w h c.args.log c.args.pending.now c.take_out-block.new.pending c.in-Ok.field-0
    (subst Consistent c.locks.ensures c.geometry.ensures.consistent)
    (subst Consistent c.locks-2.ensures c.geometry-geometry.ensures.consistent) c.requires.stands
    (subst (λ (b : List ℕ). WroteHint h (place_of v.locks.geometry (Log h c.args.log)) b v w) block
    (subst (λ (p : ℕ). WroteHint h p c.take_out-block.result.0 v w) here c.in-Ok.ensures.wrote))
    (subst (λ (b : List ℕ). Did v.locks h (Writes (place_of v.locks.geometry (Log h c.args.log)) b) Done (host_at v.locks h) w.locks) block
    (subst (λ (p : ℕ). Did v.locks h (Writes p c.take_out-block.result.0) Done (host_at v.locks h) w.locks) here c.in-Ok.ensures.did))
    c.in-Ok.ensures.others c.in-Ok.ensures.valid c.in-Ok.ensures.files c.count-count.result c.count-count.ensures.value
    (c.take_out-block.ensures.none
    ∙ ap (λ (x : Geometry). let p : HintList LogEntry = record { geometry = x; entries = [] } in p) same)

pub returns-in-Err-clause-cut : goal.returns-in-Err-clause-cut
returns-in-Err-clause-cut g c =
    let v = c.args.world.now in
    let same : c.geometry.result.now ≡ v.locks.geometry = c.geometry.ensures.geometry ∙ ap (λ (l : LocksView). l.geometry) c.locks.ensures in
    cut_weaker commands.Log v c.write_hint-wrote.new.self c.args.host c.in-Err.why (Agrees c.args.host v c.args.pending.now.entries (WritesLog c.args.log))
    (write_cut v c.write_hint-wrote.new.self c.args.host c.place.result (Log c.args.host c.args.log) c.take_out-block.result.0 c.in-Err.why
    (c.place.ensures.place ∙ ap (λ (x : Geometry). place_of x (Log c.args.host c.args.log)) same) tt
    (c.requires.stands.is_host.host, c.requires.stands.at.0) c.in-Err.ensures.others c.in-Err.ensures.did commands.Log)
