use Rattle.volume_check.proofs.ToldLaws.{told_table_faults}
use Rattle.volume_check.proofs.checking.check_tables.Goals as goal

pub returns-in-Ok-table_faults-clause-faults : goal.returns-in-Ok-table_faults-clause-faults
returns-in-Ok-table_faults-clause-faults g c =
    let e = c.in-Ok.ensures in
    told_table_faults c.args.geometry.now (g.D.Device.state c.args.disk.now).counter (g.D.Device.state c.args.disk.now).told c.in-Ok.metadata c.in-Ok-table_faults.faults.items
    e.geometry e.counter e.image c.in-Ok-table_faults.ensures
