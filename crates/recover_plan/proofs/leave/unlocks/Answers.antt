use Rattle.recover_plan.specs.laws.LeaveLaws.{unlocks_cut}
use Rattle.recover_plan.proofs.leave.unlocks.Goals as goal

pub returns-in-Some-clause-cut : goal.returns-in-Some-clause-cut
returns-in-Some-clause-cut g c =
    unlocks_cut c.args.world.now c.free_file.new.world c.args.host c.free_file.result _ c.free_file.ensures.cut

pub returns-in-None-clause-cut : goal.returns-in-None-clause-cut
returns-in-None-clause-cut g c =
    unlocks_cut c.args.world.now c.free_own.new.world c.args.host c.free_own.result _ c.free_own.ensures.cut
