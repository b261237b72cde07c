use Rattle.std.proofs.Common.{◌∙◌}
use Rattle.vol_layout.specs.laws.SuperblockLaws.{padded_superblock}
use Rattle.vol_layout.proofs.geometry.Geometry.write.Goals as goal

pub returns : goal.returns
returns c = c.finish.ensures.bytes ∙ padded_superblock _ _ c.written.ensures
