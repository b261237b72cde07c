use Rattle.std.proofs.Common.{◌∙◌, ℕ, ap, refl, subst, sym}
use Rattle.vol_layout.specs.declared.field.Field.TheVariants.{Count}
use Rattle.vol_layout.specs.declared.geometry.Geometry.{Geometry}
use Rattle.vol_layout.specs.declared.kind.Table.{Table}
use Rattle.vol_layout.specs.Fields.{HasField, table_of}
use Rattle.lock_store.specs.Views.{LocksView}
use Rattle.disk_locks.specs.Consistent.{Consistent}
use Rattle.plan_parts.specs.Fetched.{Fetched}
use Rattle.file_plans.specs.declared.stage.Stage.TheVariants as stages
use Rattle.file_plans.specs.laws.ChangeSightLaws.{change_has}
use Rattle.file_plans.specs.laws.ChangeStageLaws.{change_fetched}
use Rattle.file_plans.specs.laws.WriteEndLaws.{cut_at, went_as}
use Rattle.file_plans.proofs.changing.fetches.Goals as goal
use Rattle.file_plans.specs.laws.TurnStepLaws.{round_sooner}
use Rattle.held_cache.specs.Kept.{kept_at}
use Rattle.std.proofs.Common.{arith, refl}

pub table_of-which-requires-clause-field : goal.table_of-which-requires-clause-field
table_of-which-requires-clause-field g c =
    subst (λ (x : Geometry). HasField x (Count c.first_of-number.result))
    (sym (c.geometry.ensures.geometry ∙ ap (λ (l : LocksView). l.geometry) c.locks.ensures))
    (subst (λ (d : ℕ). HasField c.args.world.now.locks.geometry (Count d)) (sym c.first_of-number.ensures)
    (change_has _ _ c.args.core.now.call c.args.change c.requires.stands.2))

pub returns-in-Ok-clause-went : goal.returns-in-Ok-clause-went
returns-in-Ok-clause-went g c =
    went_as c.args.world.now c.fetch-came.new.world c.args.cache.now c.args.core.now _ (stages.Fetches c.args.change) _ _ _ _
    c.made.ensures refl
    (change_fetched c.args.world.now c.fetch-came.new.world c.args.cache.now c.args.core.now
    (subst Consistent c.locks.ensures c.geometry.ensures.consistent)
    (subst Consistent c.locks-2.ensures c.geometry-geometry.ensures.consistent) c.args.change c.in-Ok.kept c.requires.stands
    (subst (λ (d : ℕ). Fetched c.args.core.now.host c.args.world.now c.fetch-came.new.world (table_of (Count d)) c.in-Ok.kept)
    c.first_of-number.ensures
    (subst (λ (t : Table). Fetched c.args.core.now.host c.args.world.now c.fetch-came.new.world t c.in-Ok.kept)
    c.table_of-which.ensures.table c.in-Ok.ensures.went)))

pub returns-in-Err-clause-cut : goal.returns-in-Err-clause-cut
returns-in-Err-clause-cut g c =
    cut_at c.args.world.now c.fetch-came.new.world c.args.core.now (stages.Fetches c.args.change) c.in-Err.why c.in-Err.ensures.cut

pub returns-in-Ok-clause-sooner : goal.returns-in-Ok-clause-sooner
returns-in-Ok-clause-sooner g c =
    round_sooner c.args.world.now c.fetch-came.new.world c.args.cache.now c.args.core.now c.args.core.now (stages.Fetches c.args.change)
    (stages.Changes c.args.change c.in-Ok.kept) _ (kept_at c.args.cache.now c.args.core.now.host) c.args.core.now.call
    c.in-Ok.ensures.others.locks.lasts.geometry refl refl (omega arith)
