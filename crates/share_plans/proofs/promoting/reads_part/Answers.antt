use Rattle.std.proofs.Common.{◌≡◌, ◌∙◌, ℕ, ap, subst, sym}
use Rattle.vol_layout.specs.declared.geometry.Geometry.{Geometry}
use Rattle.vol_layout.specs.declared.kind.Table.TheVariants as tables
use Rattle.lock_store.specs.Views.{LocksView}
use Rattle.disk_locks.specs.Consistent.{Consistent}
use Rattle.plan_parts.specs.Fetched.{Fetched}
use Rattle.share_plans.specs.declared.promotion.Doing.TheVariants as doings
use Rattle.share_plans.specs.Promotions.{Went, behind_part, own_part}
use Rattle.share_plans.specs.laws.PromoteStages.{part_read}
use Rattle.share_plans.proofs.promoting.reads_part.Goals as goal

pub returns-in-Ok-clause-went : goal.returns-in-Ok-clause-went
returns-in-Ok-clause-went g c =
    let part_is : c.own_part-part.result ≡ own_part c.args.world.now.locks.geometry c.args.core.now.host =
    c.own_part-part.ensures.part
    ∙ ap (λ (x : Geometry). own_part x c.args.core.now.host)
    (c.geometry.ensures.geometry ∙ ap (λ (l : LocksView). l.geometry) c.locks.ensures) in
    subst (Went c.args.world.now c.fetch-came.new.world c.args.core.now c.args.core.now (doings.ReadsPart c.args.block))
    (sym (c.behind_part.ensures
    ∙ ap (λ (p : ℕ). behind_part c.args.core.now.taken c.args.block p c.in-Ok.kept c.first_empty-empty.result) part_is))
    (part_read c.args.world.now c.fetch-came.new.world (subst Consistent c.locks-2.ensures c.geometry-geometry.ensures.consistent)
    c.args.core.now c.args.block c.requires.stands c.in-Ok.kept
    (subst (λ (p : ℕ). Fetched c.args.core.now.host c.args.world.now c.fetch-came.new.world (tables.Part p) c.in-Ok.kept) part_is
    c.in-Ok.ensures.went) c.in-Ok.ensures.so
    c.first_empty-empty.result c.first_empty-empty.ensures.some c.first_empty-empty.ensures.none)
