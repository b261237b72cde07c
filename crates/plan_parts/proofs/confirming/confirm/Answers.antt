use Rattle.std.proofs.Common.{ap, subst}
use Rattle.std.specs.Prelude.{Err}
use Rattle.vol_layout.specs.declared.kind.Kind.TheVariants as kinds
use Rattle.vol_layout.specs.declared.kind.Resource.TheVariants.{File}
use Rattle.lock_store.specs.declared.answers.StepNo.{StepNo}
use Rattle.disk_locks.specs.Consistent.{Consistent}
use Rattle.plan_parts.specs.laws.BlockLaws.{lock_confirmed, reader_key}
use Rattle.plan_parts.specs.laws.CutCallLaws.{cut_read}
use Rattle.plan_parts.specs.laws.TakenLaws.{others_locks}
use Rattle.plan_parts.proofs.confirming.confirm.Goals as goal

pub look-requires-clause-key : goal.look-requires-clause-key
look-requires-clause-key g c =
    reader_key c.args.world.now c.args.host (File c.args.file)
    (subst Consistent c.locks.ensures c.geometry-geometry.ensures.consistent) c.requires.may

pub returns-in-Ok-clause-went : goal.returns-in-Ok-clause-went
returns-in-Ok-clause-went g c =
    lock_confirmed c.args.world.now c.look.new.world c.args.host c.args.file c.in-Ok.field-0
    (subst Consistent c.locks.ensures c.geometry-geometry.ensures.consistent) c.requires.file c.in-Ok.ensures.did c.in-Ok.ensures.others
    c.in-Ok.ensures.standing

pub returns-in-Ok-clause-others : goal.returns-in-Ok-clause-others
returns-in-Ok-clause-others g c =
    others_locks c.args.world.now c.look.new.world c.args.host
    (subst Consistent c.locks.ensures c.geometry-geometry.ensures.consistent) c.in-Ok.ensures.others c.in-Ok.ensures.standing

pub returns-in-Err-clause-others : goal.returns-in-Err-clause-others
returns-in-Err-clause-others g c =
    others_locks c.args.world.now c.look.new.world c.args.host
    (subst Consistent c.locks.ensures c.geometry-geometry.ensures.consistent) c.in-Err.ensures.others c.in-Err.ensures.standing

pub returns-in-Err-clause-cut : goal.returns-in-Err-clause-cut
returns-in-Err-clause-cut g c =
    cut_read c.args.world.now c.look.new.world c.args.host (kinds.Lock (File c.args.file)) _ c.in-Err.why
    (returns-in-Err-clause-others g c) c.in-Err.ensures.did
    (λ at same. c.in-Err.ensures.sound at (ap (λ (x : StepNo). Err x) same))
