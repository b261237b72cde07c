use Rattle.volume_faults.proofs.TableLaws.{entries_of_numbers, head_of_numbers, numbers_of}
use Rattle.volume_faults.proofs.spelling.tables.has_numbers.Goals as goal

pub returns-then-has_head : goal.returns-then-has_head
returns-then-has_head c = (
  λ yes. numbers_of c.args.geometry.now c.args.table c.args.block.now.0 (c.has_head.ensures.0 c.if-has_head.true) (c.has_entries.ensures.0 yes),
  λ numbers. c.has_entries.ensures.1 (entries_of_numbers c.args.geometry.now c.args.table c.args.block.now.0 c.requires.geometry c.requires.table numbers),
)

pub returns-else-has_head : goal.returns-else-has_head
returns-else-has_head c = (λ no. absurd cc, λ numbers. c.has_head.ensures.1 (head_of_numbers c.args.geometry.now c.args.table c.args.block.now.0 c.requires.table numbers))
