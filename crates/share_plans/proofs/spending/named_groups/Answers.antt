use Rattle.std.proofs.Common.{◌∙◌, ◌-◌, arith, sym}
use Rattle.vol_layout.specs.Ranges.{per_table}
use Rattle.share_plans.specs.Spents.{names_group}
use Rattle.share_plans.specs.laws.SpentLaws.{named_begin, named_no, named_room, named_yes}
use Rattle.share_plans.proofs.spending.named_groups.Goals as goal

pub loop-group-init : goal.loop-group-init
loop-group-init c = c.new-named.ensures ∙ named_begin (λ r. names_group c.args.part.now r per_table) c.args.groups

pub put_first-requires : goal.put_first-requires
put_first-requires c =
    named_room (λ r. names_group c.args.part.now r per_table) c.args.groups c.loop-group.group c.loop-group.named c.loop-group.invariant
    c.loop-group-test.true c.loop-group.auto.group c.requires.few

pub loop-group-preserved-then-names_group : goal.loop-group-preserved-then-names_group
loop-group-preserved-then-names_group c =
    let some = c.loop-group-test.true in
    named_yes (λ r. names_group c.args.part.now r per_table) c.args.groups (c.loop-group.group - 1) c.loop-group.group c.loop-group.named
    c.put_first.new.self (omega (arith, some)) c.loop-group.auto.group c.loop-group.invariant
    (sym c.names_group.ensures ∙ c.if-names_group.true) c.put_first.ensures

pub loop-group-preserved : goal.loop-group-preserved
loop-group-preserved c =
    let some = c.loop-group-test.true in
    named_no (λ r. names_group c.args.part.now r per_table) c.args.groups (c.loop-group.group - 1) c.loop-group.group c.loop-group.named
    (omega (arith, some)) c.loop-group.auto.group c.loop-group.invariant (sym c.names_group.ensures ∙ c.if-names_group.false)
