-- What lies on a device behind the blocks of its volume.
use Rattle.std.specs.Prelude.{◌≡◌, ◌≤◌, ℕ, slice_get}
use Rattle.vol_layout.specs.declared.geometry.Geometry.{Geometry}
use Rattle.vol_layout.specs.Regions.{total}
use Rattle.image_view.specs.Images.{Image}

-- each block behind the last one of a volume of this geometry is as before
abbrev pub KeepsBeyond : Geometry → Image → Image → Type 0
KeepsBeyond g old new = (place : ℕ) → total g ≤ place → slice_get new place ≡ slice_get old place
