use Rattle.std.specs.Prelude.{◌≡◌, ◌==◌, ◌-◌, ◌*◌, ℕ, List, [], ◌∷◌, ◌++◌, codes, length, if◌then◌else◌}
use Rattle.std.specs.List.{flat_map}
use Rattle.vol_base.specs.Bytes.{bytes_of, zeros}
use Rattle.vol_layout.specs.declared.geometry.Geometry.{Geometry}
use Rattle.vol_layout.specs.Ranges.{IsGeometry}

-- the first eight bytes: version 1 where a file has one table block, else version 2
abbrev pub volume_magic : Geometry → List ℕ
volume_magic g = if g.tables == 1 then codes "DEDEVOL1" else codes "DEDEVOL2"

-- the numbers behind the magic: seven on a volume of version 2, and six on one of version 1
abbrev pub written_numbers : Geometry → List ℕ
written_numbers g =
    g.hosts ∷ g.files ∷ g.groups ∷ g.parts ∷ g.shards ∷ g.logs
    ∷ (if g.tables == 1 then [] else g.tables ∷ [])

-- the one spelling of a geometry
unfoldable pub superblock_bytes : Geometry → List ℕ
superblock_bytes g =
    volume_magic g ++ flat_map (bytes_of 4) (written_numbers g) ++ zeros (4088 - 4 * length (written_numbers g))

-- the block spells this geometry, which is in range
abbrev pub SpellsGeometry : List ℕ → Geometry → Type 0
SpellsGeometry bytes g = IsGeometry g × (bytes ≡ superblock_bytes g)
