use Rattle.std.specs.Prelude.{IfSome}
use Rattle.std.proofs.Common.{◌≡◌, ◌∙◌, All, ap, refl, subst, sym}
use Rattle.vol_base.specs.declared.block.Key.{Key}
use Rattle.vol_layout.specs.declared.kind.Table.{Table}
use Rattle.vol_layout.specs.Edits.{IsEdit}
use Rattle.call_effects.specs.laws.PointerLaws.{fresh-unmarked}
use Rattle.journal_block.specs.JournalRecord.{JournalRecord}
use Rattle.lock_store.specs.Views.{LocksView, key_at}
use Rattle.disk_locks.specs.Consistent.{Consistent}
use Rattle.plan_parts.specs.KeptTables.{AreKept}
use Rattle.std.specs.Prelude.{Some, length}
use Rattle.share_plans.specs.LinkRecords.{table_in}
use Rattle.share_plans.specs.Promotions.{known_of}
use Rattle.share_plans.specs.laws.PromoteCommits.{edits_right, may_record, promotion_committed, record_as, tables_kept}
use Rattle.share_plans.proofs.promoting.commits.Goals as goal

pub entry_of-entry-requires : goal.entry_of-entry-requires
entry_of-entry-requires g c =
    let is = subst Consistent c.locks.ensures c.geometry-geometry.ensures.consistent in
    (fresh-unmarked c.args.world.now.locks.geometry c.args.block is.geometry c.requires.stands.0.block.inside).1

pub commit-came-requires-clause-edits : goal.commit-came-requires-clause-edits
commit-came-requires-clause-edits g c =
    let is = subst Consistent c.locks.ensures c.geometry-geometry.ensures.consistent in
    subst (λ (r : JournalRecord). All (IsEdit c.args.world.now.locks.geometry) r.edits) (sym c.entry_of-entry.ensures)
    (edits_right c.args.world.now c.args.core.now c.args.block c.args.slot c.args.part c.args.group is c.requires.stands)

pub commit-came-requires-clause-may : goal.commit-came-requires-clause-may
commit-came-requires-clause-may g c =
    let is = subst Consistent c.locks.ensures c.geometry-geometry.ensures.consistent in
    let shown : c.unwrap-key.result.0 ≡ key_at c.locks-2.result.now c.args.core.now.host =
    subst (λ o. IfSome o (λ (key : Key). key.0 ≡ key_at c.locks-2.result.now c.args.core.now.host)) c.unwrap-key.ensures c.key_of.ensures.key in
    record_as c.args.world.now c.args.core.now c.args.block c.args.slot c.unwrap-key.result.0 c.entry_of-entry.result
    (shown ∙ ap (λ (l : LocksView). key_at l c.args.core.now.host) c.locks-2.ensures) c.entry_of-entry.ensures
    (may_record c.args.world.now c.args.core.now c.args.block c.args.slot c.args.part c.args.group is c.requires.stands)

pub commit-came-requires-clause-kept : goal.commit-came-requires-clause-kept
commit-came-requires-clause-kept g c =
    let is = subst Consistent c.locks.ensures c.geometry-geometry.ensures.consistent in
    subst (AreKept c.args.world.now c.args.core.now.host) (sym c.new-left.ensures)
    (tables_kept c.args.world.now c.args.core.now c.args.block c.args.slot c.args.part c.args.group is c.requires.stands c.kept-pointers.result
    (subst (λ (t : Table). table_in (known_of c.args.core.now) t ≡ Some c.kept-pointers.result) c.table_of-which.ensures.table
    c.kept-pointers.ensures))

pub returns-in-Ok-clause-went : goal.returns-in-Ok-clause-went
returns-in-Ok-clause-went g c =
    let is = subst Consistent c.locks.ensures c.geometry-geometry.ensures.consistent in
    promotion_committed c.args.world.now c.args.core.now c.args.block c.args.slot c.args.part c.args.group is c.requires.stands
    c.commit-came.new.world c.unwrap-key.result.0 c.entry_of-entry.result c.new-left.result
    (record { entry = c.entry_of-entry.result; left = c.new-left.result }) c.entry_of-entry.ensures (ap length c.new-left.ensures)
    c.in-Ok.ensures.went c.in-Ok.ensures.so refl refl
