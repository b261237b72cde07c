use Rattle.std.proofs.Common.{subst}
use Rattle.disk_locks.specs.Consistent.{Consistent}
use Rattle.serve_plan.specs.laws.ServeLaws.{begun_by, begun_stands, unheld_went}
use Rattle.serve_plan.proofs.serving.begins.Goals as goal

pub reads-requires : goal.reads-requires
reads-requires g c =
    record {
      stands = begun_stands c.args.world.now c.args.world.now c.args.host c.args.counts c.requires.stands c.in-Some.file c.in-Some.ensures;
    }

pub returns-in-Some-clause-went : goal.returns-in-Some-clause-went
returns-in-Some-clause-went g c =
    begun_by c.args.world.now c.reads.new.world c.args.host c.args.counts c.requires.stands c.in-Some.file c.in-Some.ensures c.reads.result
    c.reads.ensures.went

pub returns-in-None-clause-went : goal.returns-in-None-clause-went
returns-in-None-clause-went g c =
    unheld_went c.args.world.now c.args.host c.args.counts (subst Consistent c.locks.ensures c.geometry-geometry.ensures.consistent)
    c.requires.stands c.in-None.ensures
