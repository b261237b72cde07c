use Rattle.std.proofs.Common.{ap, subst}
use Rattle.std.specs.Prelude.{Err}
use Rattle.lock_store.specs.declared.answers.StepNo.{StepNo}
use Rattle.disk_locks.specs.Consistent.{Consistent}
use Rattle.plan_parts.specs.laws.FetchLaws.{fetch_cut}
use Rattle.file_plans.specs.declared.stage.Stage.TheVariants.{Sees}
use Rattle.file_plans.specs.laws.NeedLaws.{kept_others, needs_went, read_base}
use Rattle.file_plans.specs.laws.WriteEndLaws.{cut_at}
use Rattle.file_plans.proofs.seeing.needs.Goals as goal
use Rattle.file_plans.specs.laws.TurnKnownLaws.{needs_sooner}

pub seen-requires-clause-cached : goal.seen-requires-clause-cached
seen-requires-clause-cached g c =
    (read_base c.args.world.now c.read_table.new.self c.args.cache.now c.keep.new.self c.args.core.now c.args.which c.in-Ok.table
    c.requires.stands (subst Consistent c.locks.ensures c.geometry-geometry.ensures.consistent)
    (subst Consistent c.locks-in-Ok.ensures c.geometry-geometry-in-Ok.ensures.consistent)
    c.requires.sight c.in-Ok.ensures.did c.in-Ok.ensures.others c.in-Ok.ensures.looked c.in-Ok.ensures.table
    c.keep.ensures).cached

pub returns-in-Ok-clause-went : goal.returns-in-Ok-clause-went
returns-in-Ok-clause-went g c =
    needs_went c.args.world.now c.read_table.new.self c.args.cache.now c.keep.new.self c.args.core.now c.args.which c.in-Ok.table
    c.requires.stands (subst Consistent c.locks.ensures c.geometry-geometry.ensures.consistent)
    (subst Consistent c.locks-in-Ok.ensures c.geometry-geometry-in-Ok.ensures.consistent)
    c.requires.sight c.in-Ok.ensures.did
    c.in-Ok.ensures.others c.in-Ok.ensures.looked c.in-Ok.ensures.table c.keep.ensures c.seen.new.core c.seen.result.0 c.seen.result.1
    c.seen.ensures

pub returns-in-Ok-clause-leaves : goal.returns-in-Ok-clause-leaves
returns-in-Ok-clause-leaves g c =
    kept_others c.args.cache.now c.keep.new.self c.args.core.now.host c.args.which c.in-Ok.table c.keep.ensures

pub returns-in-Err-clause-cut : goal.returns-in-Err-clause-cut
returns-in-Err-clause-cut g c =
    cut_at c.args.world.now c.read_table.new.self c.args.core.now Sees c.in-Err.why
    (fetch_cut c.args.world.now c.read_table.new.self c.args.core.now.host c.args.which c.in-Err.why c.in-Err.ensures.others
    c.in-Err.ensures.did (λ at is. c.in-Err.ensures.sound at (ap (λ (w : StepNo). Err w) is)))

pub returns-in-Ok-clause-sooner : goal.returns-in-Ok-clause-sooner
returns-in-Ok-clause-sooner g c =
    needs_sooner c.args.world.now c.read_table.new.self c.args.cache.now c.keep.new.self c.args.core.now c.seen.new.core c.args.which
    c.in-Ok.table c.seen.result.0 c.seen.result.1 (subst Consistent c.locks.ensures c.geometry-geometry.ensures.consistent).geometry
    c.in-Ok.ensures.looked.geometry c.requires.stands c.requires.sight c.keep.ensures c.seen.ensures
