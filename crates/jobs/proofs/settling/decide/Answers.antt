use Rattle.jobs.proofs.SettleLaws.{judged_passes, settled_passes}
use Rattle.jobs.proofs.settling.decide.Goals as goal

pub returns-in-Some-clause-images : goal.returns-in-Some-clause-images
returns-in-Some-clause-images g c = judged_passes _ _ c.judge.ensures.visiting c.judge.ensures.told

pub returns-in-Ok-clause-images : goal.returns-in-Ok-clause-images
returns-in-Ok-clause-images g c =
    settled_passes _ _ (g.D.Device.state c.settle_volume-settled.result.1) (g.D.Device.state c.conclude-outcome.new.disk) c.judge.ensures.visiting
    c.judge.ensures.told c.settle_volume-settled.ensures.given c.settle_volume-settled.ensures.passes c.conclude-outcome.ensures.counter
    c.conclude-outcome.ensures.told
