use Rattle.std.specs.Prelude.{IfSome}
use Rattle.vol_base.specs.declared.block.Key.{Key}
use Rattle.std.proofs.Common.{◌≡◌, ◌∙◌, All, ap, refl, subst, sym}
use Rattle.vol_layout.specs.declared.geometry.Geometry.{Geometry}
use Rattle.vol_layout.specs.Edits.{IsEdit}
use Rattle.call_effects.specs.laws.PointerLaws.{fresh-unmarked}
use Rattle.journal_block.specs.JournalRecord.{JournalRecord}
use Rattle.lock_store.specs.Views.{LocksView, key_at}
use Rattle.disk_locks.specs.Consistent.{Consistent}
use Rattle.plan_parts.specs.TableOrder.{tables_of}
use Rattle.share_plans.specs.LinkRecords.{MayRaise, count_table}
use Rattle.share_plans.specs.Stands.{known_of}
use Rattle.share_plans.specs.laws.CommitStageLaws.{edits_right, entry_by, link_committed, link_tables, may_raise, may_record, record_as}
use Rattle.share_plans.specs.laws.LinkLaws.{from_group}
use Rattle.share_plans.specs.laws.LinkRecordLaws.{unmarked_apart}
use Rattle.share_plans.specs.laws.StillLaws.{pair_has}
use Rattle.share_plans.proofs.linking.commits.Goals as goal

pub link-entry-requires-clause-from : goal.link-entry-requires-clause-from
link-entry-requires-clause-from g c =
    subst (λ (x : Geometry). MayRaise x (count_table c.args.group c.args.other).table c.args.pair.source)
    (sym (c.geometry-geometry.ensures.geometry ∙ ap (λ (l : LocksView). l.geometry) c.locks.ensures))
    (let is = subst Consistent c.locks.ensures c.geometry-geometry.ensures.consistent in
    may_raise c.args.world.now c.args.core.now.host c.args.pair.source (count_table c.args.group c.args.other) is
    (from_group c.args.world.now c.args.core.now c.args.pair c.args.group c.args.other is c.requires.stands))

pub link-entry-requires-clause-small : goal.link-entry-requires-clause-small
link-entry-requires-clause-small g c =
    let is = subst Consistent c.locks.ensures c.geometry-geometry.ensures.consistent in
    let has = pair_has c.args.world.now.locks.geometry (known_of c.args.core.now) c.args.core.now.file c.args.core.now.index
    c.args.core.now.source c.args.pair c.requires.stands.0.are_pair in
    (fresh-unmarked c.args.world.now.locks.geometry c.args.pair.source is.geometry has.1).1

pub link-entry-requires-clause-apart : goal.link-entry-requires-clause-apart
link-entry-requires-clause-apart g c =
    let is = subst Consistent c.locks.ensures c.geometry-geometry.ensures.consistent in
    unmarked_apart c.args.world.now.locks.geometry c.args.core.now c.args.pair is.geometry c.requires.stands.0.are_pair

pub commit-came-requires-clause-edits : goal.commit-came-requires-clause-edits
commit-came-requires-clause-edits g c =
    let is = subst Consistent c.locks.ensures c.geometry-geometry.ensures.consistent in
    let entry_is =
    entry_by c.args.core.now c.args.pair c.args.group c.args.other c.geometry-geometry.result.now c.args.world.now.locks.geometry
    c.unwrap-key.result.0 c.link-entry.result
    (c.geometry-geometry.ensures.geometry ∙ ap (λ (l : LocksView). l.geometry) c.locks.ensures) c.link-entry.ensures in
    subst (λ (r : JournalRecord). All (IsEdit c.args.world.now.locks.geometry) r.edits) (sym entry_is)
    (edits_right c.args.world.now c.args.core.now c.args.pair c.args.group c.args.other is c.requires.stands)

pub commit-came-requires-clause-may : goal.commit-came-requires-clause-may
commit-came-requires-clause-may g c =
    let is = subst Consistent c.locks.ensures c.geometry-geometry.ensures.consistent in
    let entry_is =
    entry_by c.args.core.now c.args.pair c.args.group c.args.other c.geometry-geometry.result.now c.args.world.now.locks.geometry
    c.unwrap-key.result.0 c.link-entry.result
    (c.geometry-geometry.ensures.geometry ∙ ap (λ (l : LocksView). l.geometry) c.locks.ensures) c.link-entry.ensures in
    let shown : c.unwrap-key.result.0 ≡ key_at c.locks-2.result.now c.args.core.now.host =
    subst (λ o. IfSome o (λ (key : Key). key.0 ≡ key_at c.locks-2.result.now c.args.core.now.host)) c.unwrap-key.ensures c.key_of.ensures.key in
    let key_is = shown ∙ ap (λ (l : LocksView). key_at l c.args.core.now.host) c.locks-2.ensures in
    record_as c.args.world.now c.args.core.now c.args.pair c.args.group c.args.other c.unwrap-key.result.0 c.link-entry.result key_is entry_is
    (may_record c.args.world.now c.args.core.now c.args.pair c.args.group c.args.other is c.requires.stands)

pub commit-came-requires-clause-kept : goal.commit-came-requires-clause-kept
commit-came-requires-clause-kept g c =
    let is = subst Consistent c.locks.ensures c.geometry-geometry.ensures.consistent in
    (link_tables c.args.world.now c.args.core.now c.args.pair c.args.group c.args.other is c.requires.stands c.tables-left.result
    c.tables-left.ensures).0

pub commit-came-requires-clause-order : goal.commit-came-requires-clause-order
commit-came-requires-clause-order g c =
    let is = subst Consistent c.locks.ensures c.geometry-geometry.ensures.consistent in
    let entry_is =
    entry_by c.args.core.now c.args.pair c.args.group c.args.other c.geometry-geometry.result.now c.args.world.now.locks.geometry
    c.unwrap-key.result.0 c.link-entry.result
    (c.geometry-geometry.ensures.geometry ∙ ap (λ (l : LocksView). l.geometry) c.locks.ensures) c.link-entry.ensures in
    (link_tables c.args.world.now c.args.core.now c.args.pair c.args.group c.args.other is c.requires.stands c.tables-left.result
    c.tables-left.ensures).1 ∙ ap (λ (r : JournalRecord). tables_of r.edits) (sym entry_is)

pub returns-in-Ok-clause-went : goal.returns-in-Ok-clause-went
returns-in-Ok-clause-went g c =
    let is = subst Consistent c.locks.ensures c.geometry-geometry.ensures.consistent in
    let entry_is =
    entry_by c.args.core.now c.args.pair c.args.group c.args.other c.geometry-geometry.result.now c.args.world.now.locks.geometry
    c.unwrap-key.result.0 c.link-entry.result
    (c.geometry-geometry.ensures.geometry ∙ ap (λ (l : LocksView). l.geometry) c.locks.ensures) c.link-entry.ensures in
    link_committed c.args.world.now c.args.core.now c.args.pair c.args.group c.args.other is c.requires.stands c.commit-came.new.world
    c.unwrap-key.result.0 c.link-entry.result c.tables-left.result (record { entry = c.link-entry.result; left = c.tables-left.result }) entry_is
    c.tables-left.ensures c.in-Ok.ensures.went c.in-Ok.ensures.so refl refl
