use Rattle.std.proofs.Common.{subst, sym}
use Rattle.plan_parts.specs.Applies as apply
use Rattle.plan_parts.specs.MadeCalls.{AppliedSo}
use Rattle.share_plans.specs.Closings.{Closes}
use Rattle.share_plans.specs.declared.closing.Closing.TheVariants.{Applies}
use Rattle.share_plans.specs.laws.ClosingLaws.{record_closes, table_closes}
use Rattle.share_plans.proofs.closing.applies.Goals as goal

pub returns-in-Ok-Wrote-clause-went : goal.returns-in-Ok-Wrote-clause-went
returns-in-Ok-Wrote-clause-went g c =
    table_closes c.args.host c.args.world.now c.next.new.world c.args.taken.now c.args.applying c.next.new.self _ c.requires.stands
    c.in-Ok-Wrote.ensures.entry
    (subst (apply.Went c.args.host c.args.world.now c.next.new.world c.args.applying.entry.edits c.args.applying.left c.next.new.self.left)
    c.in-Ok-Wrote.field-0-is c.in-Ok-Wrote.ensures.went)
    (subst (AppliedSo c.args.host c.args.world.now c.next.new.world) c.in-Ok-Wrote.field-0-is c.in-Ok-Wrote.ensures.so)

pub returns-in-Ok-Finished-clause-went : goal.returns-in-Ok-Finished-clause-went
returns-in-Ok-Finished-clause-went g c =
    subst (Closes c.args.host c.args.world.now c.next.new.world c.args.taken.now c.args.taken.now (Applies c.args.applying))
    (sym c.rested.ensures)
    (record_closes c.args.host c.args.world.now c.next.new.world c.args.taken.now c.args.applying c.requires.host c.requires.stands
    (subst (apply.Went c.args.host c.args.world.now c.next.new.world c.args.applying.entry.edits c.args.applying.left c.next.new.self.left)
    c.in-Ok-Finished.field-0-is c.in-Ok-Finished.ensures.went)
    (subst (AppliedSo c.args.host c.args.world.now c.next.new.world) c.in-Ok-Finished.field-0-is c.in-Ok-Finished.ensures.so))
