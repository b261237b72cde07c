use Rattle.std.proofs.Common.{subst, sym}
use Rattle.vol_layout.specs.declared.kind.Table.{Table}
use Rattle.plan_parts.specs.Fetched.{Fetched}
use Rattle.share_plans.specs.declared.stage.Stage.TheVariants as stages
use Rattle.share_plans.specs.Went.{Went}
use Rattle.share_plans.specs.laws.CompareStageLaws.{own_counted}
use Rattle.share_plans.proofs.counting.counts_own.Goals as goal

pub returns-in-Ok-clause-went : goal.returns-in-Ok-clause-went
returns-in-Ok-clause-went g c =
    subst (Went c.args.world.now c.fetch-came.new.world c.args.core.now c.args.core.now (stages.CountsOwn c.args.pair)) (sym c.behind_counts.ensures)
    (own_counted c.args.world.now c.fetch-came.new.world c.args.core.now c.args.pair c.in-Ok.kept c.requires.stands
    (subst (λ (t : Table). Fetched c.args.core.now.host c.args.world.now c.fetch-came.new.world t c.in-Ok.kept) c.table_of-which.ensures.table
    c.in-Ok.ensures.went) c.in-Ok.ensures.so)
