use Rattle.std.proofs.Common.{subst}
use Rattle.vol_layout.specs.declared.kind.Table.{Table}
use Rattle.plan_parts.specs.Fetched.{Fetched}
use Rattle.share_plans.specs.laws.PromoteStages.{group_read}
use Rattle.share_plans.proofs.promoting.reads_group.Goals as goal

pub returns-in-Ok-clause-went : goal.returns-in-Ok-clause-went
returns-in-Ok-clause-went g c =
    group_read c.args.world.now c.fetch-came.new.world c.args.core.now c.args.block c.args.slot c.args.part c.in-Ok.group c.requires.stands
    (subst (λ (t : Table). Fetched c.args.core.now.host c.args.world.now c.fetch-came.new.world t c.in-Ok.group) c.table_of-which.ensures.table
    c.in-Ok.ensures.went) c.in-Ok.ensures.so
