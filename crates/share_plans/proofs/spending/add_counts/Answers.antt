use Rattle.std.proofs.Common.{◌≡◌, ◌∙◌, ◌+◌, ◌*◌, ◌++◌, ℕ, sym}
use Rattle.vol_layout.specs.Ranges.{per_table}
use Rattle.call_effects.specs.Collections.{freed}
use Rattle.share_plans.specs.Spents.{frees, picked}
use Rattle.share_plans.specs.laws.SpentLaws.{at_end, counts_room, row_is}
use Rattle.share_plans.proofs.spending.add_counts.Goals as goal

pub add-requires-clause-room : goal.add-requires-clause-room
add-requires-clause-room c =
    (counts_room c.args.part.now (per_table * c.args.group_no) c.loop-at.at (1008 * c.from.result + c.loop-at.at) c.args.slots.now.edits
    c.args.slots.now.key c.loop-at.entry c.loop-at.invariant (sym c.frees.ensures ∙ c.if-frees.true)
    (row_is c.args.group_no c.from.result c.loop-at.at c.from.ensures) c.requires.few c.requires.other).0

pub add-requires-clause-other : goal.add-requires-clause-other
add-requires-clause-other c =
    (counts_room c.args.part.now (per_table * c.args.group_no) c.loop-at.at (1008 * c.from.result + c.loop-at.at) c.args.slots.now.edits
    c.args.slots.now.key c.loop-at.entry c.loop-at.invariant (sym c.frees.ensures ∙ c.if-frees.true)
    (row_is c.args.group_no c.from.result c.loop-at.at c.from.ensures) c.requires.few c.requires.other).1

pub returns : goal.returns
returns c =
    at_end (λ (n : ℕ). c.loop-at.entry ≡ record c.args.slots.now {
      edits = c.args.slots.now.edits ++ freed (picked (frees c.args.part.now c.args.slots.now.edits) (per_table * c.args.group_no) n);
    }) c.loop-at.at c.loop-at-test.false c.loop-at.auto.at-end c.loop-at.invariant
