use Rattle.std.proofs.Common.{ℕ, ap, subst, sym, ◌∙◌}
use Rattle.vol_layout.specs.declared.kind.Table.TheVariants as tables
use Rattle.journal_block.specs.JournalRecord.{JournalRecord}
use Rattle.call_effects.specs.Heads.{headed}
use Rattle.lock_store.specs.Views.{key_at}
use Rattle.held_cache.specs.Kept.{kept_at}
use Rattle.disk_locks.specs.Consistent.{Consistent}
use Rattle.file_plans.specs.laws.CommitLaws.{head_committed, may_head}
use Rattle.file_plans.specs.laws.PutLaws.{ok_of}
use Rattle.file_plans.proofs.commits.commit_head.Goals as goal

pub put-requires-clause-may : goal.put-requires-clause-may
put-requires-clause-may g c =
    may_head c.args.world.now c.args.cache.now c.args.host (subst Consistent c.locks.ensures c.geometry-geometry.ensures.consistent)
    c.requires.cached c.requires.empty c.args.call.now c.args.number c.first-entry.result c.kept.result c.new-left.result c.requires.file
    c.requires.held c.requires.sight
    (c.first-entry.ensures
    ∙ ap (λ (f : ℕ).
    let r : JournalRecord = record { key = key_at c.args.world.now.locks c.args.host; edits = headed f c.args.number } in r)
    c.file_no-file.ensures)
    (c.kept.ensures.which ∙ ap tables.File c.file_no-file.ensures)
    (ap (λ (f : ℕ). kept_at c.args.cache.now c.args.host (tables.File f)) (sym c.file_no-file.ensures) ∙ c.kept.ensures.table)
    c.new-left.ensures

pub returns-clause-went : goal.returns-clause-went
returns-clause-went g c =
    ok_of c.put.result _ _ c.put.ensures.went (λ a put.
    head_committed c.args.world.now c.args.cache.now c.args.host (subst Consistent c.locks.ensures c.geometry-geometry.ensures.consistent)
    c.requires.cached c.requires.empty c.put.new.world c.args.call.now c.args.number c.first-entry.result c.new-left.result a
    c.requires.file c.requires.sight
    (c.first-entry.ensures
    ∙ ap (λ (f : ℕ).
    let r : JournalRecord = record { key = key_at c.args.world.now.locks c.args.host; edits = headed f c.args.number } in r)
    c.file_no-file.ensures) put)
