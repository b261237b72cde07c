use Rattle.solo.specs.laws.LaterLaws.{later_then}
use Rattle.solo.proofs.starting.begins.Goals as goal

pub returns-in-Ok-takes_all-clause-later : goal.returns-in-Ok-takes_all-clause-later
returns-in-Ok-takes_all-clause-later g c =
    later_then 1 0 c.args.world.now c.recovers.new.world c.takes_all.new.world c.in-Ok.ensures.later c.in-Ok-takes_all.ensures.later

pub returns-in-Err-takes_all-clause-later : goal.returns-in-Err-takes_all-clause-later
returns-in-Err-takes_all-clause-later g c =
    later_then 1 0 c.args.world.now c.recovers.new.world c.takes_all.new.world c.in-Ok.ensures.later c.in-Err-takes_all.ensures.later
