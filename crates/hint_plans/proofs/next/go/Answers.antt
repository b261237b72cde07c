use Rattle.std.proofs.Common.{◌∙◌, [], ap, subst}
use Rattle.vol_base.specs.declared.answer.CutBy.TheVariants as cuts
use Rattle.vol_layout.specs.declared.geometry.Geometry.{Geometry}
use Rattle.hint_blocks.specs.declared.entry.LogEntry.{LogEntry}
use Rattle.hint_blocks.specs.HintLists.{HintList}
use Rattle.lock_store.specs.Views.{LocksView}
use Rattle.disk_locks.specs.Consistent.{Consistent}
use Rattle.plan_parts.specs.Cuts.{cut_by}
use Rattle.hint_plans.specs.laws.NextLaws.{cut_came, untouched}
use Rattle.hint_plans.proofs.next.go.Goals as goal

pub returns-in-Err-NoMemory-clause-none : goal.returns-in-Err-NoMemory-clause-none
returns-in-Err-NoMemory-clause-none g c =
    untouched c.args.world.now c.call.new.world c.args.host c.args.pending.now.entries c.args.doing c.in-Err-NoMemory.field-0 c.in-Err-NoMemory.ensures.cut c.in-Err-NoMemory.field-0-is

pub returns-in-Err-Fenced-clause-came : goal.returns-in-Err-Fenced-clause-came
returns-in-Err-Fenced-clause-came g c =
    cut_came c.args.world.now c.call.new.world c.args.host c.args.pending.now c.cut.new.pending c.args.doing c.in-Err-Fenced.field-0 cuts.Fenced
    c.cut.result (subst Consistent c.locks.ensures c.geometry.ensures.consistent) c.requires.stands c.in-Err-Fenced.ensures.stop
    c.in-Err-Fenced.ensures.cut (ap cut_by c.in-Err-Fenced.field-0-is) c.cut.ensures.come
    (c.cut.ensures.none
    ∙ ap (λ (x : Geometry). let p : HintList LogEntry = record { geometry = x; entries = [] } in p)
    (c.geometry.ensures.geometry ∙ ap (λ (l : LocksView). l.geometry) c.locks.ensures))

pub returns-in-Err-Failed-clause-came : goal.returns-in-Err-Failed-clause-came
returns-in-Err-Failed-clause-came g c =
    cut_came c.args.world.now c.call.new.world c.args.host c.args.pending.now c.cut-in-Err-Failed.new.pending c.args.doing
    c.in-Err-Failed.field-0 cuts.Fault c.cut-in-Err-Failed.result (subst Consistent c.locks.ensures c.geometry.ensures.consistent) c.requires.stands
    c.in-Err-Failed.ensures.stop c.in-Err-Failed.ensures.cut (ap cut_by c.in-Err-Failed.field-0-is) c.cut-in-Err-Failed.ensures.come
    (c.cut-in-Err-Failed.ensures.none
    ∙ ap (λ (x : Geometry). let p : HintList LogEntry = record { geometry = x; entries = [] } in p)
    (c.geometry.ensures.geometry ∙ ap (λ (l : LocksView). l.geometry) c.locks.ensures))

pub returns-in-Err-Bad-clause-came : goal.returns-in-Err-Bad-clause-came
returns-in-Err-Bad-clause-came g c =
    cut_came c.args.world.now c.call.new.world c.args.host c.args.pending.now c.cut-in-Err-Bad.new.pending c.args.doing
    c.in-Err-Bad.field-0 (cuts.Bad c.in-Err-Bad.place) c.cut-in-Err-Bad.result
    (subst Consistent c.locks.ensures c.geometry.ensures.consistent) c.requires.stands c.in-Err-Bad.ensures.stop c.in-Err-Bad.ensures.cut
    (ap cut_by c.in-Err-Bad.field-0-is) c.cut-in-Err-Bad.ensures.come
    (c.cut-in-Err-Bad.ensures.none
    ∙ ap (λ (x : Geometry). let p : HintList LogEntry = record { geometry = x; entries = [] } in p)
    (c.geometry.ensures.geometry ∙ ap (λ (l : LocksView). l.geometry) c.locks.ensures))
