use Rattle.volume_check.proofs.RunLaws.{found_is_checked}
use Rattle.volume_check.proofs.spelling.add_at.Goals as goal

pub add_of-requires-clause-checked : goal.add_of-requires-clause-checked
add_of-requires-clause-checked c =
    found_is_checked c.args.metadata.now.geometry c.geometry-geometry.result c.in-Some.kind c.args.place c.geometry-geometry.ensures.geometry c.in-Some.ensures.place c.requires
