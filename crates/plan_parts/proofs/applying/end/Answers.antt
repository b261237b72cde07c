use Rattle.vol_layout.specs.declared.kind.Kind.TheVariants as kinds
use Rattle.plan_parts.specs.laws.ApplyingLaws.{all_applied, record_ended}
use Rattle.plan_parts.specs.laws.CutCallLaws.{cut_write}
use Rattle.plan_parts.specs.laws.MadeCallLaws.{ended_so}
use Rattle.plan_parts.proofs.applying.end.Goals as goal

pub finish-requires-clause-applied : goal.finish-requires-clause-applied
finish-requires-clause-applied g c = all_applied c.args.world.now c.args.host c.args.entry.now.edits c.requires.stands

pub returns-in-Ok-clause-went : goal.returns-in-Ok-clause-went
returns-in-Ok-clause-went g c =
    record_ended c.args.world.now c.finish.new.self c.args.host c.args.entry.now.edits c.in-Ok.field-0 c.requires.stands c.requires.host
    c.in-Ok.ensures.others c.in-Ok.ensures.valid c.in-Ok.ensures.files c.in-Ok.ensures.wrote c.in-Ok.ensures.empty c.in-Ok.ensures.did

pub returns-in-Err-clause-cut : goal.returns-in-Err-clause-cut
returns-in-Err-clause-cut g c =
    cut_write c.args.world.now c.finish.new.self c.args.host (kinds.Journal c.args.host) _ c.in-Err.why c.requires.host
    c.in-Err.ensures.others c.in-Err.ensures.did

pub returns-in-Ok-clause-so : goal.returns-in-Ok-clause-so
returns-in-Ok-clause-so g c =
    ended_so c.args.world.now c.finish.new.self c.args.host c.in-Ok.field-0 c.requires.host c.in-Ok.ensures.others c.in-Ok.ensures.valid
    c.in-Ok.ensures.files c.in-Ok.ensures.did
