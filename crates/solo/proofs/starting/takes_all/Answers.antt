use Rattle.solo.specs.laws.LaterLaws.{later_first, later_then}
use Rattle.solo.proofs.starting.takes_all.Goals as goal

pub loop-file-init : goal.loop-file-init
loop-file-init g c = record { later = later_first 0 c.args.world.now; taking = c.requires.taking }

pub loop-file-preserved : goal.loop-file-preserved
loop-file-preserved g c = record {
  later = later_then 0 0 c.args.world.now c.loop-file.world c.takes.new.world c.loop-file.invariant.later c.in-Ok.ensures.later;
  taking = c.in-Ok.ensures.taken;
}

pub returns-in-Err-clause-later : goal.returns-in-Err-clause-later
returns-in-Err-clause-later g c =
    later_then 0 0 c.args.world.now c.loop-file.world c.takes.new.world c.loop-file.invariant.later c.in-Err.ensures.later
