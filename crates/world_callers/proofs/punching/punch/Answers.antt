use Rattle.std.proofs.Common.{ap, rules, subst, sym}
use Rattle.std.specs.Prelude.{All}
use Rattle.vol_layout.specs.declared.field.Field.TheVariants.{Count}
use Rattle.vol_layout.specs.Edits.{IsEdit}
use Rattle.journal_block.specs.JournalRecord.{JournalRecord}
use Rattle.table_blocks.specs.Tables.{number_in}
use Rattle.call_effects.specs.Drops.{dropped}
use Rattle.disk_locks.specs.Consistent.{Consistent}
use Rattle.host_facts.specs.laws.KeptLaws.{others_then}
use Rattle.world_callers.proofs.DropSure.{drop_edits, drop_sure, record_sure}
use Rattle.world_callers.proofs.TablesKept.{committed}
use Rattle.world_callers.proofs.punching.punch.Goals as goal

pub commit-requires-clause-edits : goal.commit-requires-clause-edits
commit-requires-clause-edits g c =
    subst (λ (r : JournalRecord). All (IsEdit c.args.world.now.locks.geometry) r.edits) (sym c.drop_of-entry.ensures)
    (drop_edits c.args.world.now c.args.host c.args.file c.args.index c.args.block c.args.pointers.now c.args.counts.now c.requires.both)

pub commit-requires-clause-key : goal.commit-requires-clause-key
commit-requires-clause-key g c = search rules

pub commit-requires-clause-may : goal.commit-requires-clause-may
commit-requires-clause-may g c =
    record_sure c.args.world.now c.args.host c.args.file c.args.index c.args.block c.args.counts.now c.drop_of-entry.result
    (ap (λ (r : JournalRecord). r.edits) c.drop_of-entry.ensures) (commit-requires-clause-key g c)
    (drop_sure c.args.world.now c.args.host c.args.file c.args.index c.args.block c.args.pointers.now c.args.counts.now
    (subst Consistent c.locks.ensures c.geometry-geometry.ensures.consistent) c.requires.both c.requires.empty c.requires.names)

pub settle-requires-clause-stands : goal.settle-requires-clause-stands
settle-requires-clause-stands g c =
    let is = subst Consistent c.locks.ensures c.geometry-geometry.ensures.consistent in
    committed c.args.world.now c.commit.new.self c.args.host c.args.file c.args.index c.args.block _ c.drop_of-entry.result _
    (dropped c.args.file c.args.index c.args.block (number_in c.args.counts.now (Count c.args.block))) c.args.pointers.now c.args.counts.now
    is.geometry
    (drop_edits c.args.world.now c.args.host c.args.file c.args.index c.args.block c.args.pointers.now c.args.counts.now c.requires.both)
    c.requires.both c.drop_of-entry.ensures c.in_ok-commit.ensures.wrote c.in_ok-commit.ensures.stands
    c.in_ok-commit.ensures.standing (search rules)

pub returns-clause-others : goal.returns-clause-others
returns-clause-others g c =
    others_then c.args.world.now _ _ c.args.host (subst Consistent c.locks.ensures c.geometry-geometry.ensures.consistent)
    c.in_ok-commit.ensures.others c.settle.ensures.others
