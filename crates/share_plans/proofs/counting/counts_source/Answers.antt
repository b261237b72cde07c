use Rattle.std.proofs.Common.{subst}
use Rattle.vol_layout.specs.declared.kind.Table.{Table}
use Rattle.plan_parts.specs.Fetched.{Fetched}
use Rattle.share_plans.specs.laws.CompareStageLaws.{source_counted}
use Rattle.share_plans.proofs.counting.counts_source.Goals as goal

pub returns-in-Ok-clause-went : goal.returns-in-Ok-clause-went
returns-in-Ok-clause-went g c =
    source_counted c.args.world.now c.fetch-came.new.world c.args.core.now c.args.pair c.in-Ok.kept c.args.group c.requires.stands
    (subst (λ (t : Table). Fetched c.args.core.now.host c.args.world.now c.fetch-came.new.world t c.in-Ok.kept) c.table_of-which.ensures.table
    c.in-Ok.ensures.went) c.in-Ok.ensures.so
