-- What block 0 of a device says.
use Rattle.std.specs.Prelude.{◌≡◌, ◌≢◌, ℕ, List, Option, Some, None}
use Rattle.vol_base.specs.Bytes.{zeros}
use Rattle.vol_layout.specs.declared.geometry.Geometry.{Geometry}
use Rattle.vol_layout.specs.Superblock.{SpellsGeometry}
use Rattle.volume_opening.specs.declared.block_zero.Found.{Found}
use Rattle.volume_opening.specs.declared.block_zero.Found.TheVariants.{Blank, Volume, Other}

-- what these bytes are; a device of no block has none
abbrev pub IsFound : List ℕ → Found → Type 0
IsFound block Blank = block ≡ zeros 4096
IsFound block (Volume g) = SpellsGeometry block g
IsFound block Other = (block ≢ zeros 4096) × ((g : Geometry) → SpellsGeometry block g → ⊥)

-- the geometry that was found
abbrev pub found_geometry : Found → Option Geometry
found_geometry Blank = None
found_geometry (Volume g) = Some g
found_geometry Other = None
