use Rattle.merge_actions.specs.laws.PostLaws.{read_went}
use Rattle.merge_actions.proofs.acting.ActPlan.reads.Goals as goal

pub returns-in-Ok-clause-went : goal.returns-in-Ok-clause-went
returns-in-Ok-clause-went g c =
    read_went c.args.world.now c.reads_index.new.world c.args.self.now c.args.file c.args.request c.in-Ok.block c.requires.stands
    c.in-Ok.ensures.went
