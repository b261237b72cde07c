use Rattle.std.proofs.Common.{ap, ◌∙◌}
use Rattle.journal_block.specs.JournalRecord.{JournalRecord}
use Rattle.vol_layout.specs.Edits.{touches}
use Rattle.share_plans.specs.laws.LinkRecordLaws.{more_other}
use Rattle.share_plans.proofs.linking.with_counts.Goals as goal

pub add-requires-2-clause-other : goal.add-requires-2-clause-other
add-requires-2-clause-other c =
    ap (λ (r : JournalRecord). touches r.edits c.args.second.field) c.add.ensures
    ∙ more_other c.args.entry.edits c.args.first c.args.second.field c.requires.others c.requires.apart
