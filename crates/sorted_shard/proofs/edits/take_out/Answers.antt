use Rattle.std.proofs.Common.{refl}
use Rattle.sorted_shard.proofs.Edited.{take_out_front}
use Rattle.sorted_shard.proofs.edits.take_out.Goals as goal

pub returns-clause-entries : goal.returns-clause-entries
returns-clause-entries c =
    take_out_front c.args.entries.now c.args.count c.args.start c.args.end c.requires.range c.requires.within c.requires.counted c.rotate_left.new.self _ c.rotate_left.ensures.after refl
