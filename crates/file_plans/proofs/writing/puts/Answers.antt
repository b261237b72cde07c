use Rattle.std.proofs.Common.{ap, refl, subst, sym}
use Rattle.vol_layout.specs.declared.kind.Kind.TheVariants.{Number}
use Rattle.disk_locks.specs.Consistent.{Consistent}
use Rattle.plan_parts.specs.laws.CutCallLaws.{cut_write}
use Rattle.plan_parts.specs.laws.FullLaws.{free_sure}
use Rattle.file_plans.specs.Calls.{block_of}
use Rattle.file_plans.specs.declared.stage.Stage.TheVariants as stages
use Rattle.file_plans.specs.laws.WriteEndLaws.{cut_at, went_as}
use Rattle.file_plans.specs.laws.WriteStageLaws.{block_put}
use Rattle.file_plans.proofs.writing.puts.Goals as goal
use Rattle.file_plans.specs.laws.TurnStepLaws.{round_sooner}
use Rattle.held_cache.specs.Kept.{kept_at}
use Rattle.std.proofs.Common.{arith, refl}

pub write_fresh-done-requires-clause-free : goal.write_fresh-done-requires-clause-free
write_fresh-done-requires-clause-free g c =
    free_sure c.args.world.now c.args.core.now.host c.args.fresh.number c.args.fresh.group
    (subst Consistent c.locks.ensures c.geometry-geometry.ensures.consistent) c.requires.stands.block.kept
    c.requires.stands.comes.empty c.requires.stands.block.has c.requires.stands.block.which c.requires.stands.block.free

pub returns-in-Ok-clause-went : goal.returns-in-Ok-clause-went
returns-in-Ok-clause-went g c =
    went_as c.args.world.now c.write_fresh-done.new.self c.args.cache.now c.args.core.now _ (stages.Puts c.args.fresh) _ _ _ _
    c.made.ensures refl
    (block_put c.args.world.now c.write_fresh-done.new.self c.args.cache.now c.args.core.now
    (subst Consistent c.locks.ensures c.geometry-geometry.ensures.consistent)
    (subst Consistent c.locks-2.ensures c.geometry-geometry-2.ensures.consistent) c.args.fresh c.written.result.2.now.0 _
    c.in-Ok.field-0 c.requires.stands (sym (ap (λ call. (block_of call).0) c.written.ensures)) c.in-Ok.ensures.did c.in-Ok.ensures.others
    c.in-Ok.ensures.valid c.in-Ok.ensures.files c.in-Ok.ensures.wrote c.in-Ok.ensures.fresh)

pub returns-in-Err-clause-cut : goal.returns-in-Err-clause-cut
returns-in-Err-clause-cut g c =
    cut_at c.args.world.now c.write_fresh-done.new.self c.args.core.now (stages.Puts c.args.fresh) c.in-Err.why
    (cut_write c.args.world.now c.write_fresh-done.new.self c.args.core.now.host (Number c.args.fresh.number) c.written.result.2.now.0
    c.in-Err.why c.requires.stands.block.has c.in-Err.ensures.others c.in-Err.ensures.did)

pub returns-in-Ok-clause-sooner : goal.returns-in-Ok-clause-sooner
returns-in-Ok-clause-sooner g c =
    round_sooner c.args.world.now c.write_fresh-done.new.self c.args.cache.now c.args.core.now c.args.core.now (stages.Puts c.args.fresh)
    (stages.Fills c.args.fresh) _ (kept_at c.args.cache.now c.args.core.now.host) c.args.core.now.call
    c.in-Ok.ensures.others.locks.lasts.geometry refl refl (omega arith)
