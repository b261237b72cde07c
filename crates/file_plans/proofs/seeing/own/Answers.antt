use Rattle.std.proofs.Common.{[], Some, subst, sym}
use Rattle.std.specs.Prelude.{Ok}
use Rattle.vol_base.specs.declared.block.Block.{Block}
use Rattle.vol_base.specs.declared.plain.PlainCall.TheVariants.{Write}
use Rattle.call_effects.specs.Places.{IsPlaced}
use Rattle.disk_locks.specs.Sure.{BothTold, Sure}
use Rattle.host_facts.specs.OwnBlocks.{IsOwnBlock}
use Rattle.host_facts.specs.Wrote.{Wrote}
use Rattle.lock_store.specs.Calls.{WritesBlock}
use Rattle.lock_store.specs.Views.{host_at, told_of}
use Rattle.file_plans.specs.Calls.{file_of, index_of}
use Rattle.vol_base.specs.declared.answer.Step.{Step}
use Rattle.vol_base.specs.declared.plain.PlainReply.TheVariants.{Done}
use Rattle.vol_layout.specs.declared.kind.Kind.TheVariants as kinds
use Rattle.disk_locks.specs.Consistent.{Consistent}
use Rattle.plan_parts.specs.declared.outcome.Outcome.TheVariants.{Placed}
use Rattle.plan_parts.specs.laws.CutCallLaws.{cut_write}
use Rattle.file_plans.specs.Went.{Went}
use Rattle.file_plans.specs.declared.stage.Stage.TheVariants.{Sees}
use Rattle.file_plans.specs.laws.SeeLaws.{own_sure, own_went}
use Rattle.file_plans.specs.laws.WriteEndLaws.{cut_at}
use Rattle.file_plans.proofs.seeing.own.Goals as goal
use Rattle.file_plans.specs.laws.TurnKnownLaws.{placed_rests}
use Rattle.file_plans.specs.Turns.{IsSooner}
use Rattle.std.proofs.Common.{refl}

pub write_own-requires-clause-own : goal.write_own-requires-clause-own
write_own-requires-clause-own g c =
    subst (λ i. Sure c.args.world.now.locks c.args.core.now.host
    (IsOwnBlock c.args.world.now.locks.geometry c.file-file.result i c.args.number)) (sym c.index-index.ensures)
    (subst (λ f. Sure c.args.world.now.locks c.args.core.now.host
    (IsOwnBlock c.args.world.now.locks.geometry f (index_of c.args.core.now.call) c.args.number)) (sym c.file-file.ensures)
    (own_sure c.args.world.now c.args.cache.now c.args.core.now c.args.number c.requires.stands
    (subst Consistent c.locks.ensures c.geometry-geometry.ensures.consistent) c.requires.sight).3)

pub returns-in-Ok-clause-went : goal.returns-in-Ok-clause-went
returns-in-Ok-clause-went g c =
    let before = subst Consistent c.locks.ensures c.geometry-geometry.ensures.consistent in
    let sure = own_sure c.args.world.now c.args.cache.now c.args.core.now c.args.number c.requires.stands before c.requires.sight in
    subst (λ (s : Step). Went c.args.world.now c.write_own.new.self c.args.cache.now c.args.core.now
    (record c.args.core.now { outcome = Placed Done }) Sees s c.rested-next.result.1) (sym c.made.ensures)
    (own_went c.args.world.now c.write_own.new.self c.args.cache.now c.args.core.now c.args.number c.in-Ok.field-0
    c.rested-next.result.0 c.rested-next.result.1 c.requires.stands before
    (subst Consistent c.locks-in-Ok.ensures c.geometry-geometry-in-Ok.ensures.consistent) c.requires.sight sure.2
    (subst (λ (b : Block). WritesBlock c.args.world.now.locks c.args.core.now.host (kinds.Number c.args.number) b.0
    (host_at c.args.world.now.locks c.args.core.now.host) (Ok c.in-Ok.field-0) c.write_own.new.self.locks) c.block.ensures c.in-Ok.ensures.did)
    c.in-Ok.ensures.others c.in-Ok.ensures.valid
    (subst (λ (b : Block). Wrote c.args.core.now.host (kinds.Number c.args.number) b.0 [] (Some (c.args.number, b.0)) c.args.world.now
    c.write_own.new.self) c.block.ensures c.in-Ok.ensures.wrote)
    (subst (λ (b : Block). BothTold (told_of c.args.world.now.locks) (told_of c.write_own.new.self.locks)
    (IsPlaced c.args.world.now.locks.geometry (Write (file_of c.args.core.now.call) (index_of c.args.core.now.call) b) Done)) c.block.ensures
    (subst (λ i. BothTold (told_of c.args.world.now.locks) (told_of c.write_own.new.self.locks)
    (IsPlaced c.args.world.now.locks.geometry (Write (file_of c.args.core.now.call) i c.block.result) Done)) c.index-index.ensures
    (subst (λ f. BothTold (told_of c.args.world.now.locks) (told_of c.write_own.new.self.locks)
    (IsPlaced c.args.world.now.locks.geometry (Write f c.index-index.result c.block.result) Done)) c.file-file.ensures
    c.in-Ok.ensures.placed)))
    c.rested-next.ensures)

pub returns-in-Err-clause-cut : goal.returns-in-Err-clause-cut
returns-in-Err-clause-cut g c =
    cut_at c.args.world.now c.write_own.new.self c.args.core.now Sees c.in-Err.why
    (cut_write c.args.world.now c.write_own.new.self c.args.core.now.host (kinds.Number c.args.number) _ c.in-Err.why
    (own_sure c.args.world.now c.args.cache.now c.args.core.now c.args.number c.requires.stands
    (subst Consistent c.locks.ensures c.geometry-geometry.ensures.consistent) c.requires.sight).2
    c.in-Err.ensures.others c.in-Err.ensures.did)

pub returns-in-Ok-clause-sooner : goal.returns-in-Ok-clause-sooner
returns-in-Ok-clause-sooner g c =
    subst (λ (s : Step). IsSooner c.args.world.now c.args.cache.now c.args.core.now Sees c.write_own.new.self c.args.cache.now
    (record c.args.core.now { outcome = Placed Done }) s.next c.rested-next.result.1) (sym c.made.ensures)
    (placed_rests c.args.world.now c.write_own.new.self c.args.cache.now c.args.cache.now c.args.core.now _ Done c.rested-next.result.0
    c.rested-next.result.1
    c.in-Ok.ensures.others.locks.lasts.geometry c.requires.stands.1 refl c.rested-next.ensures)
