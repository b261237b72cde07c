use Rattle.merge_shelves.proofs.Deciding.{all_of}
use Rattle.merge_shelves.proofs.handling.decided.Goals as goal

pub decide-requires : goal.decide-requires
decide-requires c = all_of c.args.entry.now.digest c.args.shelf.now.entries c.entries_of.result.now c.entries_of.ensures.entries
