use Rattle.volume_check.proofs.CountLaws.{part_elsewhere}
use Rattle.volume_check.proofs.counting.add_at_table.Goals as goal

pub add_of_marks-requires-clause-table : goal.add_of_marks-requires-clause-table
add_of_marks-requires-clause-table c = rw c.in-File.is at c.requires.table

pub returns-in-File : goal.returns-in-File
returns-in-File c = rw c.in-File.is c.add_of_marks.ensures

pub returns-in-Group : goal.returns-in-Group
returns-in-Group c = rw c.in-Group.is c.add_of_counts.ensures

pub returns-in-Part : goal.returns-in-Part
returns-in-Part c = rw c.in-Part.is (part_elsewhere c.args.metadata.now c.in-Part.field-0 c.args.faults.now.items)
