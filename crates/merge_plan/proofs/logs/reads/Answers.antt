use Rattle.std.proofs.Common.{◌≡◌, ◌≤◌, ◌∙◌, ap, arith, length, refl, subst, sym}
use Rattle.std.specs.Prelude.{All}
use Rattle.vol_layout.specs.declared.geometry.Geometry.{Geometry}
use Rattle.vol_layout.specs.Ranges.{IsGeometry}
use Rattle.hint_blocks.specs.Entries.{IsLogEntry}
use Rattle.disk_locks.specs.Consistent.{Consistent}
use Rattle.lock_store.specs.Views.{LocksView}
use Rattle.merge_shelves.specs.Rooms.{log_entries}
use Rattle.merge_plan.specs.Followings.{IsBehindLog, IsLogNoted}
use Rattle.merge_plan.specs.Plans.{logs_of}
use Rattle.merge_plan.specs.declared.plan.Doing.TheVariants.{ReadsLog}
use Rattle.merge_plan.specs.declared.room.MergeRoom.{MergeRoom}
use Rattle.merge_plan.specs.laws.LogSteps.{log_read}
use Rattle.merge_plan.proofs.logs.reads.Goals as goal

pub reads_log-read-requires-clause-stands : goal.reads_log-read-requires-clause-stands
reads_log-read-requires-clause-stands g c = c.requires.stands.1.0

pub reads_log-read-requires-clause-log : goal.reads_log-read-requires-clause-log
reads_log-read-requires-clause-log g c = c.requires.stands.1.1.below

pub notes-requires-clause-geometry : goal.notes-requires-clause-geometry
notes-requires-clause-geometry g c =
    subst IsGeometry (sym c.geometry.ensures.geometry) c.geometry.ensures.consistent.geometry

pub notes-requires-clause-log : goal.notes-requires-clause-log
notes-requires-clause-log g c =
    let v = c.args.world.now in
    let most = (subst Consistent c.locks.ensures c.geometry.ensures.consistent).geometry.logs.1 in
    let below = c.requires.stands.1.1.below in omega (arith, most, below)

pub notes-requires-clause-room : goal.notes-requires-clause-room
notes-requires-clause-room g c = c.requires.stands.1.1.few

pub behind_log-requires-clause-geometry : goal.behind_log-requires-clause-geometry
behind_log-requires-clause-geometry g c =
    subst IsGeometry (sym c.geometry.ensures.geometry) c.geometry.ensures.consistent.geometry

pub behind_log-requires-clause-log : goal.behind_log-requires-clause-log
behind_log-requires-clause-log g c =
    let same : c.geometry.result.now ≡ c.args.world.now.locks.geometry =
    c.geometry.ensures.geometry ∙ ap (λ (l : LocksView). l.geometry) c.locks.ensures in
    let logs = ap (λ (x : Geometry). x.logs) same in
    let below = c.requires.stands.1.1.below in omega (arith, logs, below)

pub behind_log-requires-clause-begun : goal.behind_log-requires-clause-begun
behind_log-requires-clause-begun g c = ap (λ (r : MergeRoom). r.sweep.at) c.notes.ensures.noted ∙ c.requires.stands.1.1.at

pub returns-in-Ok-clause-went : goal.returns-in-Ok-clause-went
returns-in-Ok-clause-went g c =
    let v = c.args.world.now in
    let old = c.args.room.now in
    let block = c.in-Ok.block in
    let same : c.geometry.result.now ≡ v.locks.geometry = c.geometry.ensures.geometry ∙ ap (λ (l : LocksView). l.geometry) c.locks.ensures in
    let noted = subst (λ (x : Geometry). IsLogNoted x c.args.log block old c.notes.new.room) same c.notes.ensures.noted in
    log_read v c.reads_log-read.new.world c.args.host c.args.log (subst Consistent c.locks.ensures c.geometry.ensures.consistent)
    (subst Consistent c.locks-2.ensures c.geometry-geometry.ensures.consistent) old block c.requires.stands.1.0 c.requires.stands.1.1
    (subst (λ (x : Geometry). length (log_entries x block.0) ≤ 126) same c.notes.ensures.few)
    (subst (λ (x : Geometry). All (IsLogEntry x) (log_entries x block.0)) same c.notes.ensures.range)
    (c.in-Ok.ensures.went (logs_of v.locks.geometry old (ReadsLog c.args.log)) refl refl) c.behind_log.new.room c.behind_log.result
    (subst (λ (r : MergeRoom). IsBehindLog v.locks.geometry c.args.log r c.behind_log.new.room c.behind_log.result) noted
    (subst (λ (x : Geometry). IsBehindLog x c.args.log c.notes.new.room c.behind_log.new.room c.behind_log.result) same c.behind_log.ensures))

pub returns-in-Ok-clause-others : goal.returns-in-Ok-clause-others
returns-in-Ok-clause-others g c = c.in-Ok.ensures.others

pub returns-in-Err-clause-cut : goal.returns-in-Err-clause-cut
returns-in-Err-clause-cut g c = c.in-Err.ensures.cut

pub returns-in-Err-clause-others : goal.returns-in-Err-clause-others
returns-in-Err-clause-others g c = c.in-Err.ensures.others
