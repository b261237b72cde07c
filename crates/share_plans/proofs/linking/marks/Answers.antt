use Rattle.std.proofs.Common.{sym, ◌∙◌}
use Rattle.image_view.specs.Links.{marked}
use Rattle.share_plans.specs.laws.LinkRecordLaws.{mark_entry, mark_other}
use Rattle.share_plans.proofs.linking.marks.Goals as goal

pub add-requires-clause-other : goal.add-requires-clause-other
add-requires-clause-other c =
    mark_other c.args.core.now c.args.pair _ c.in-Some.file c.in-Some.index
    (marked c.args.pair.source) (marked c.args.pair.source) c.new-entry.result c.mark-in-Some.result
    c.requires.apart (sym c.unmarked.ensures ∙ c.in-Some.is)
    (mark_entry c.args.core.now c.args.key.0 c.args.pair.source c.mark.result c.new-entry.result c.mark.ensures c.new-entry.ensures)
    c.mark-in-Some.ensures
