use Rattle.recover_plan.specs.laws.LoneLaws.{goes_came}
use Rattle.recover_plan.specs.LoneSteps.{end_of, later_of}
use Rattle.recover_plan.proofs.lone.goes_on.Goals as goal

pub replays-requires : goal.replays-requires
replays-requires g c = record { at = c.requires.at }

pub returns-in-Ok-clause-came : goal.returns-in-Ok-clause-came
returns-in-Ok-clause-came g c =
    goes_came c.args.world.now c.replays.new.world c.args.host c.args.of c.args.dead (later_of c.in-Ok.came) (end_of c.in-Ok.came)
    c.in-Ok.ensures.came
