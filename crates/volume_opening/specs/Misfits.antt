-- Where the geometry of a workload does not fit a device.
use Rattle.std.specs.Prelude.{◌==◌, ◌&&◌, ℕ, List, [], ◌∷◌, Option, Some, None, find, nat_lt, not, if◌then◌else◌}
use Rattle.std.specs.List.{zip}
use Rattle.std.specs.Option.{option_and_then, option_or}
use Rattle.std.specs.Str.{bytes_eq}
use Rattle.vol_layout.specs.declared.geometry.Geometry.{Geometry}
use Rattle.vol_layout.specs.Ranges.{is_geometry}
use Rattle.vol_layout.specs.Regions.{total}
use Rattle.vol_layout.specs.Superblock.{superblock_bytes}
use Rattle.image_view.specs.Images.{Image, first_block, geometry_of}

-- the geometry that block 0 spells, if it is a superblock
unfoldable pub superblock_of : Image → Option Geometry
superblock_of image =
    let g = geometry_of image in
    if is_geometry g && bytes_eq (first_block image) (superblock_bytes g) then Some g else None

-- the seven numbers of a geometry; a volume of version 1 has one table block a file
abbrev pub geometry_numbers : Geometry → List ℕ
geometry_numbers g = g.hosts ∷ g.files ∷ g.groups ∷ g.parts ∷ g.shards ∷ g.logs ∷ g.tables ∷ []

-- the first number that differs, in the one and in the other
abbrev pub difference : Geometry → Geometry → Option (ℕ × ℕ)
difference given found = find (λ pair. not (pair.0 == pair.1)) (zip (geometry_numbers given) (geometry_numbers found))

-- the blocks that a volume needs, and those that the device has, where these are fewer
abbrev pub shortfall : Geometry → ℕ → Option (ℕ × ℕ)
shortfall g blocks = if nat_lt blocks (total g) then Some (total g, blocks) else None

-- where a superblock stands, the number in which it differs, or else the blocks that are missing
abbrev pub misfit_with : Geometry → ℕ → Option Geometry → Option (ℕ × ℕ)
misfit_with g blocks found = option_or (option_and_then (difference g) found) (shortfall g blocks)

-- what does not fit on a device of this image and of so many blocks
abbrev pub misfit : Geometry → ℕ → Image → Option (ℕ × ℕ)
misfit g blocks image = misfit_with g blocks (superblock_of image)
