use Rattle.std.proofs.Common.{subst, sym}
use Rattle.vol_base.specs.declared.answer.Step.{Step}
use Rattle.vol_base.specs.declared.plain.PlainReply.TheVariants.{Holds}
use Rattle.disk_locks.specs.Consistent.{Consistent}
use Rattle.plan_parts.specs.declared.outcome.Outcome.TheVariants.{Placed}
use Rattle.plan_parts.specs.laws.BlockLaws.{cut_block}
use Rattle.file_plans.specs.Went.{Went}
use Rattle.file_plans.specs.declared.stage.Stage.TheVariants.{Sees}
use Rattle.file_plans.specs.laws.SeeLaws.{shows_has, shows_named, shows_went}
use Rattle.file_plans.specs.laws.WriteEndLaws.{cut_at}
use Rattle.file_plans.proofs.seeing.shows.Goals as goal
use Rattle.file_plans.specs.laws.TurnKnownLaws.{placed_rests}
use Rattle.file_plans.specs.Turns.{IsSooner}
use Rattle.std.proofs.Common.{refl}

pub read_number-requires-clause-named : goal.read_number-requires-clause-named
read_number-requires-clause-named g c =
    shows_named c.args.world.now c.args.cache.now c.args.core.now c.args.number c.requires.stands
    (subst Consistent c.locks.ensures c.geometry-geometry.ensures.consistent) c.requires.sight

pub returns-in-Ok-clause-went : goal.returns-in-Ok-clause-went
returns-in-Ok-clause-went g c =
    subst (λ (s : Step). Went c.args.world.now c.read_number.new.self c.args.cache.now c.args.core.now
    (record c.args.core.now { outcome = Placed (Holds c.in-Ok.block) }) Sees s c.rested-next.result.1) (sym c.made.ensures)
    (shows_went c.args.world.now c.read_number.new.self c.args.cache.now c.args.core.now c.args.number c.in-Ok.block
    c.rested-next.result.0 c.rested-next.result.1 c.requires.stands
    (subst Consistent c.locks.ensures c.geometry-geometry.ensures.consistent)
    (subst Consistent c.locks-in-Ok.ensures c.geometry-geometry-in-Ok.ensures.consistent) c.requires.sight
    (shows_has c.args.world.now c.args.cache.now c.args.core.now c.args.number c.requires.sight) c.in-Ok.ensures.did
    c.in-Ok.ensures.others c.in-Ok.ensures.looked c.in-Ok.ensures.block c.rested-next.ensures)

pub returns-in-Err-clause-cut : goal.returns-in-Err-clause-cut
returns-in-Err-clause-cut g c =
    cut_at c.args.world.now c.read_number.new.self c.args.core.now Sees c.in-Err.why
    (cut_block c.args.world.now c.read_number.new.self c.args.core.now.host c.args.number c.in-Err.why c.in-Err.ensures.others
    c.in-Err.ensures.did)

pub returns-in-Ok-clause-sooner : goal.returns-in-Ok-clause-sooner
returns-in-Ok-clause-sooner g c =
    subst (λ (s : Step). IsSooner c.args.world.now c.args.cache.now c.args.core.now Sees c.read_number.new.self c.args.cache.now
    (record c.args.core.now { outcome = Placed (Holds c.in-Ok.block) }) s.next c.rested-next.result.1) (sym c.made.ensures)
    (placed_rests c.args.world.now c.read_number.new.self c.args.cache.now c.args.cache.now c.args.core.now _ (Holds c.in-Ok.block)
    c.rested-next.result.0 c.rested-next.result.1
    c.in-Ok.ensures.looked.geometry c.requires.stands.1 refl c.rested-next.ensures)
