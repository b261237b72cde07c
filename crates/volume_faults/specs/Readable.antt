-- Volumes of which a check can read each block that it looks at.
use Rattle.std.specs.Prelude.{◌≤◌, ℕ, length}
use Rattle.vol_layout.specs.declared.geometry.Geometry.{Geometry}
use Rattle.vol_layout.specs.Regions.{total}
use Rattle.vol_layout.specs.Superblock.{SpellsGeometry}
use Rattle.image_view.specs.Images.{Image, first_block, geometry_of}
use Rattle.volume_faults.specs.Faults.{IsPassed}

-- a volume of this geometry, on a device whose counter is this, whose superblock, slots, journals, locks
-- and tables are spellings in range
pub record IsReadable (g : Geometry) (counter : ℕ) (image : Image) : Type 0 where
  pub superblock : SpellsGeometry (first_block image) g
  pub long : total g ≤ length image
  pub blocks : IsPassed g counter image 2

-- there is a geometry under which the image is readable: the one that its block 0 says
abbrev pub IsReadableVolume : ℕ → Image → Type 0
IsReadableVolume counter image = IsReadable (geometry_of image) counter image
