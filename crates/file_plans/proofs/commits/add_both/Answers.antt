use Rattle.std.proofs.Common.{sym, arith}
use Rattle.file_plans.specs.laws.PutLaws.{count_added}
use Rattle.file_plans.proofs.commits.add_both.Goals as goal

pub add-requires-then-left-found-2-2-clause-other : goal.add-requires-then-left-found-2-2-clause-other
add-requires-then-left-found-2-2-clause-other c =
    count_added c.args.entry.now c.add-then-left-found-2.new.entry c.lowered.result c.raised-then-left-found-2.result c.args.left
    c.args.found _ _ c.add-then-left-found-2.ensures c.lowered.ensures c.raised-then-left-found-2.ensures c.requires.other
    (λ same. absurd (omega (arith, same, c.if-left-found-2.true)))

pub add-requires-else-left-found-2-2-clause-other : goal.add-requires-else-left-found-2-2-clause-other
add-requires-else-left-found-2-2-clause-other c =
    count_added c.args.entry.now c.add-else-left-found-2.new.entry c.raised-else-left-found-2.result c.lowered-else-left-found-2.result
    c.args.found c.args.left _ _ c.add-else-left-found-2.ensures c.raised-else-left-found-2.ensures c.lowered-else-left-found-2.ensures
    c.requires.other (λ same. absurd (c.if-left-found.false (sym same)))
