use Rattle.std.proofs.Common.{refl}
use Rattle.volume_faults.proofs.TableLaws.{table_may_be, table_of_packing, table_packed, table_written}
use Rattle.volume_faults.proofs.spelling.tables.is_spelled.Goals as goal

pub returns-in-None : goal.returns-in-None
returns-in-None c = (λ no. absurd cc, λ is. c.in-None.ensures.packed.1 (rw c.magic.ensures (table_packed c.args.table c.args.block.now.0 is)))

pub returns-then-may_be : goal.returns-then-may_be
returns-then-may_be c = (
  λ yes. table_of_packing c.args.table c.args.block.now c.into_block.result c.in-Some.packed c.magic.result c.magic.ensures (c.in-Some.ensures.packed.0 refl) c.in-Some.ensures.value
      c.may_be.ensures.packing (c.may_be.ensures.may.0 c.if-may_be.true) c.into_block.ensures.bytes c.into_block.ensures.block (c.same.ensures.0 yes),
  λ is. c.same.ensures.1 (table_written c.args.table c.args.block.now c.into_block.result c.in-Some.packed c.in-Some.ensures.value c.into_block.ensures.bytes is),
)

pub returns-else-may_be : goal.returns-else-may_be
returns-else-may_be c = (λ no. absurd cc, λ is. c.may_be.ensures.may.1 (table_may_be c.args.table c.args.block.now.0 c.in-Some.packed c.in-Some.ensures.value is))
