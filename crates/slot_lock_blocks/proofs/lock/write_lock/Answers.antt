use Rattle.slot_lock_blocks.proofs.Pieces.{lock_written}
use Rattle.slot_lock_blocks.proofs.lock.write_lock.Goals as goal

pub returns-clause-bytes : goal.returns-clause-bytes
returns-clause-bytes c =
    lock_written _ _ _ _ _ _ _ _ c.state.ensures c.key.ensures c.readers.ensures c.header-draft.ensures.bytes c.header-draft.ensures.long
    c.skip_to.ensures.value c.skip_to.ensures.long c.push_to.ensures.keys c.push_to.ensures.long c.finish.ensures.bytes

pub returns-clause-reads : goal.returns-clause-reads
returns-clause-reads c h = (h, returns-clause-bytes c)
