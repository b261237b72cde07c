use Rattle.std.proofs.Common.{◌≡◌, ℕ, None, Some, ap, subst, sym, ◌∙◌}
use Rattle.vol_layout.specs.declared.field.Field.TheVariants.{Pointer}
use Rattle.vol_layout.specs.declared.geometry.Geometry.{Geometry}
use Rattle.vol_layout.specs.Fields.{HasField, table_of}
use Rattle.lock_store.specs.Views.{LocksView}
use Rattle.disk_locks.specs.Consistent.{Consistent}
use Rattle.held_cache.specs.Kept.{kept_at}
use Rattle.file_plans.specs.Calls.{file_of}
use Rattle.file_plans.specs.laws.PurgeCommitLaws.{first_remain, may_purge, purge_committed, remains_small}
use Rattle.file_plans.specs.laws.PurgeLoopLaws.{holes_other, purge_entry}
use Rattle.file_plans.specs.laws.PutLaws.{ok_of}
use Rattle.file_plans.proofs.purging.commit_purge.Goals as goal

pub table_of-which-requires-clause-field : goal.table_of-which-requires-clause-field
table_of-which-requires-clause-field g c =
    let same = c.geometry.ensures.geometry ∙ ap (λ (l : LocksView). l.geometry) c.locks.ensures in
    subst (λ (f : ℕ). HasField c.geometry.result.now (Pointer f c.get-start.result.index)) (sym c.file-file.ensures)
    (subst (λ (h : Geometry). HasField h (Pointer (file_of c.args.call.now) c.get-start.result.index)) (sym same)
    (first_remain c.args.world.now.locks.geometry (kept_at c.args.cache.now c.args.host) c.args.call.now c.args.remains.now
    c.get-start.result c.requires.sight c.get-start.ensures).1.has)

pub add_counts-requires-clause-other : goal.add_counts-requires-clause-other
add_counts-requires-clause-other g c =
    holes_other c.file-file.result c.args.remains.now c.first-entry.result c.add_holes.new.entry c.add_holes.ensures

pub add_counts-requires-clause-small : goal.add_counts-requires-clause-small
add_counts-requires-clause-small g c =
    remains_small c.args.world.now.locks.geometry (kept_at c.args.cache.now c.args.host) c.args.call.now c.args.remains.now
    (subst Consistent c.locks.ensures c.geometry.ensures.consistent).geometry c.requires.sight

pub kept-requires-clause-kept : goal.kept-requires-clause-kept
kept-requires-clause-kept g c none =
    let first = first_remain c.args.world.now.locks.geometry (kept_at c.args.cache.now c.args.host) c.args.call.now c.args.remains.now
    c.get-start.result c.requires.sight c.get-start.ensures in
    let at = c.table_of-which.ensures.table ∙ ap (λ (f : ℕ). table_of (Pointer f c.get-start.result.index)) c.file-file.ensures in
    let both = sym first.1.says.kept ∙ ap (kept_at c.args.cache.now c.args.host) (sym at) ∙ none in
    absurd (let e : Some first.1.says.table ≡ None = both in cc)

pub put-requires-clause-may : goal.put-requires-clause-may
put-requires-clause-may g c =
    let at = c.table_of-which.ensures.table ∙ ap (λ (f : ℕ). table_of (Pointer f c.get-start.result.index)) c.file-file.ensures in
    may_purge c.args.world.now c.args.cache.now c.args.host (subst Consistent c.locks.ensures c.geometry.ensures.consistent)
    c.requires.cached c.requires.empty c.args.call.now c.args.remains.now c.args.group c.requires.file c.requires.held c.requires.group
    c.requires.which c.requires.sight c.add_counts.new.entry c.get-start.result c.kept.result c.new-left.result
    (purge_entry _ c.file-file.result (file_of c.args.call.now) _ c.first-entry.result c.add_holes.new.entry c.add_counts.new.entry
    c.args.remains.now c.args.group.table c.first-entry.ensures c.add_holes.ensures c.add_counts.ensures c.file-file.ensures)
    c.get-start.ensures (c.kept.ensures.which ∙ at)
    (ap (kept_at c.args.cache.now c.args.host) (sym at) ∙ c.kept.ensures.table) c.new-left.ensures

pub returns-clause-went : goal.returns-clause-went
returns-clause-went g c =
    ok_of c.put.result _ _ c.put.ensures.went (λ a put.
    purge_committed c.args.world.now c.args.cache.now c.args.host (subst Consistent c.locks.ensures c.geometry.ensures.consistent)
    c.requires.cached c.requires.empty c.args.call.now c.args.remains.now c.args.group c.requires.file c.requires.held c.requires.group
    c.requires.which c.requires.sight c.put.new.world c.add_counts.new.entry c.new-left.result a
    (purge_entry _ c.file-file.result (file_of c.args.call.now) _ c.first-entry.result c.add_holes.new.entry c.add_counts.new.entry
    c.args.remains.now c.args.group.table c.first-entry.ensures c.add_holes.ensures c.add_counts.ensures c.file-file.ensures) put)
