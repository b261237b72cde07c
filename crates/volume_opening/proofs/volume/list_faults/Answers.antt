use Rattle.volume_opening.proofs.FoundLaws.{superblock_faults, volume_faults}
use Rattle.volume_opening.proofs.volume.list_faults.Goals as goal

pub returns-in-Volume-clause-faults : goal.returns-in-Volume-clause-faults
returns-in-Volume-clause-faults g c =
    volume_faults _ _ _ _ _ c.check_tables.result (rw c.in-Volume.is at c.requires.fits) (g.met.D.Device.whole_image c.args.disk.now) (rw c.in-Volume.is at c.requires.found) c.check_tables.ensures.faults

pub returns-in-Blank-clause-faults : goal.returns-in-Blank-clause-faults
returns-in-Blank-clause-faults g c = superblock_faults _ _ _ c.superblock_fault.result c.in-Blank.is c.requires.not_blank c.requires.found c.superblock_fault.ensures.fault
