use Rattle.std.proofs.Common.{sym, true≢false}
use Rattle.recover_plan.specs.laws.ClaimLaws.{named_before, none_named, others_more}
use Rattle.recover_plan.proofs.replaying.is_named_before.Goals as goal

pub returns-then-are_same-clause-yes : goal.returns-then-are_same-clause-yes
returns-then-are_same-clause-yes g c =
    named_before g.args.entry.now.edits g.args.k g.loop-i.i g.table_at-which.result g.table_at.result g.loop-i-test.true g.requires.more
    g.table_at-which.ensures.table g.table_at.ensures.table (g.if-are_same.ensures.0 c)

pub loop-i-preserved : goal.loop-i-preserved
loop-i-preserved c =
    others_more c.args.entry.now.edits c.args.k c.loop-i.i c.table_at-which.result c.table_at.result c.table_at-which.ensures.table
    c.table_at.ensures.table (λ same. true≢false (sym (c.if-are_same.ensures.1 same))) c.loop-i.invariant

pub returns-clause-no : goal.returns-clause-no
returns-clause-no c named =
    absurd
    (none_named c.args.entry.now.edits c.args.k c.loop-i.i c.requires.more c.loop-i-test.false c.loop-i.invariant named)
