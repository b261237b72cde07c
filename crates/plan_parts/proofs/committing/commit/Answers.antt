use Rattle.vol_layout.specs.declared.kind.Kind.TheVariants as kinds
use Rattle.plan_parts.specs.laws.CommitLaws.{quiet_commit, record_committed}
use Rattle.plan_parts.specs.laws.CutCallLaws.{cut_write}
use Rattle.plan_parts.proofs.committing.commit.Goals as goal

pub returns-in-Ok-clause-went : goal.returns-in-Ok-clause-went
returns-in-Ok-clause-went g c =
    record_committed c.args.world.now c.commit.new.self c.args.host c.args.entry.now c.in-Ok.field-0 c.requires.host c.in-Ok.ensures.did
    c.in-Ok.ensures.others c.in-Ok.ensures.valid c.args.left.now c.count-count.ensures.well_formed c.requires.edits c.requires.kept
    c.requires.order c.in-Ok.ensures.wrote c.in-Ok.ensures.stands

pub returns-in-Err-clause-cut : goal.returns-in-Err-clause-cut
returns-in-Err-clause-cut g c =
    cut_write c.args.world.now c.commit.new.self c.args.host (kinds.Journal c.args.host) _ c.in-Err.why c.requires.host
    c.in-Err.ensures.others c.in-Err.ensures.did

pub returns-in-Ok-clause-so : goal.returns-in-Ok-clause-so
returns-in-Ok-clause-so g c =
    quiet_commit c.args.world.now c.commit.new.self c.args.host c.args.entry.now c.in-Ok.field-0 c.requires.host c.in-Ok.ensures.did
    c.in-Ok.ensures.others c.in-Ok.ensures.valid
