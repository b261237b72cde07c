use Rattle.std.proofs.Common.{subst}
use Rattle.disk_locks.specs.Consistent.{Consistent}
use Rattle.merge_steps.specs.laws.CallLaws.{table_cut, table_packed, table_went}
use Rattle.merge_steps.proofs.looks.reads_table.Goals as goal

pub returns-clause-went : goal.returns-clause-went
returns-clause-went g c =
    table_went c.args.world.now c.read_table.new.self c.args.host (subst Consistent c.locks.ensures c.geometry-geometry.ensures.consistent)
    c.requires.stands c.read_table.ensures.others c.args.which c.read_table.result c.requires.table c.read_table.ensures.did
    c.read_table.ensures.looked

pub returns-clause-cut : goal.returns-clause-cut
returns-clause-cut g c =
    table_cut c.args.world.now c.read_table.new.self c.args.host (subst Consistent c.locks.ensures c.geometry-geometry.ensures.consistent)
    c.requires.stands c.read_table.ensures.others c.args.which c.read_table.result c.read_table.ensures.did c.read_table.ensures.sound

pub returns-clause-packing : goal.returns-clause-packing
returns-clause-packing g c =
    table_packed c.args.world.now c.read_table.new.self c.args.host (subst Consistent c.locks.ensures c.geometry-geometry.ensures.consistent)
    c.requires.stands c.read_table.ensures.others c.args.which c.read_table.result c.read_table.ensures.did
