use Rattle.std.proofs.Common.{subst}
use Rattle.vol_layout.specs.declared.kind.Kind.TheVariants as kinds
use Rattle.disk_locks.specs.Consistent.{Consistent}
use Rattle.plan_parts.specs.laws.ApplyingLaws.{advanced}
use Rattle.plan_parts.specs.laws.CutCallLaws.{cut_write}
use Rattle.plan_parts.specs.laws.MadeCallLaws.{applied_so}
use Rattle.plan_parts.proofs.applying.Applying.write.Goals as goal

pub returns-in-Ok-clause-went : goal.returns-in-Ok-clause-went
returns-in-Ok-clause-went g c =
    advanced c.args.world.now c.advance.new.self c.args.host c.args.self.now.entry.edits c.args.kept c.args.self.now.left c.edited.result
    c.in-Ok.field-0 (subst Consistent c.locks.ensures c.geometry-geometry.ensures.consistent) c.requires.stands c.in-Ok.ensures.others
    c.in-Ok.ensures.valid c.in-Ok.ensures.files c.in-Ok.ensures.did c.in-Ok.ensures.wrote c.in-Ok.ensures.table c.edited.ensures

pub returns-in-Err-clause-cut : goal.returns-in-Err-clause-cut
returns-in-Err-clause-cut g c =
    cut_write c.args.world.now c.advance.new.self c.args.host (kinds.Table c.args.kept.which) _ c.in-Err.why
    c.requires.stands.kept.0.table c.in-Err.ensures.others c.in-Err.ensures.did

pub returns-in-Ok-clause-so : goal.returns-in-Ok-clause-so
returns-in-Ok-clause-so g c =
    applied_so c.args.world.now c.advance.new.self c.args.host c.args.self.now.entry.edits c.args.kept c.args.self.now.left
    c.edited.result c.in-Ok.field-0 c.requires.stands c.in-Ok.ensures.others c.in-Ok.ensures.valid c.in-Ok.ensures.files
    c.in-Ok.ensures.did c.edited.ensures
