use Rattle.slot_lock_blocks.proofs.Pieces.{slot_written}
use Rattle.slot_lock_blocks.proofs.slot.write_slot.Goals as goal

pub returns-clause-bytes : goal.returns-clause-bytes
returns-clause-bytes c = slot_written _ _ _ _ _ _ _ c.state.ensures c.key.ensures c.second.ensures c.header-draft.ensures.bytes c.header-draft.ensures.long c.push_u64.ensures.value c.push_u64.ensures.long c.finish.ensures.bytes

pub returns-clause-reads : goal.returns-clause-reads
returns-clause-reads c h = (h, returns-clause-bytes c)
