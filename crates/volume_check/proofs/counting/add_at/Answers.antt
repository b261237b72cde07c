use Rattle.vol_layout.specs.declared.kind.Table.TheVariants as tables
use Rattle.volume_check.specs.Counts.{file_table}
use Rattle.volume_check.proofs.CountLaws.{miscounted_elsewhere}
use Rattle.volume_check.proofs.counting.add_at.Goals as goal

pub add_at_table-requires-clause-table : goal.add_at_table-requires-clause-table
add_at_table-requires-clause-table c = rw c.in-Table.is at c.requires.kind

pub returns-in-Table : goal.returns-in-Table
returns-in-Table c = rw c.in-Table.is c.add_at_table.ensures

pub returns-in_default : goal.returns-in_default
returns-in_default c =
    miscounted_elsewhere c.args.metadata.now c.args.kind c.args.faults.now.items (λ f t e. c.in_default.not-Table (file_table f t) e) (λ r e. c.in_default.not-Table (tables.Group r) e)
