use Rattle.std.proofs.Common.{subst}
use Rattle.disk_locks.specs.Consistent.{Consistent}
use Rattle.merge_steps.specs.laws.CallLaws.{block_cut, block_went}
use Rattle.merge_steps.proofs.looks.reads_block.Goals as goal

pub returns-clause-went : goal.returns-clause-went
returns-clause-went g c =
    block_went c.args.world.now c.read_number.new.self c.args.host (subst Consistent c.locks.ensures c.geometry-geometry.ensures.consistent)
    c.requires.stands c.read_number.ensures.others c.args.number c.read_number.result c.requires.number c.read_number.ensures.did
    c.read_number.ensures.looked

pub returns-clause-cut : goal.returns-clause-cut
returns-clause-cut g c =
    block_cut c.args.world.now c.read_number.new.self c.args.host (subst Consistent c.locks.ensures c.geometry-geometry.ensures.consistent)
    c.requires.stands c.read_number.ensures.others c.args.number c.read_number.result c.read_number.ensures.did
