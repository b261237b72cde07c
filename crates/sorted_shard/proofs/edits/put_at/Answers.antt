use Rattle.std.proofs.Common.{refl}
use Rattle.sorted_shard.proofs.Edited.{put_at_front}
use Rattle.sorted_shard.proofs.edits.put_at.Goals as goal

pub returns-clause-entries : goal.returns-clause-entries
returns-clause-entries c =
    put_at_front c.args.entries.now c.args.count c.args.place c.args.entry c.requires.place c.requires.room c.rotate_right.new.self _ c.rotate_right.ensures.after refl
