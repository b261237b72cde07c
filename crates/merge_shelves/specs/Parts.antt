-- The shelves of a volume, and to which one a digest belongs.
use Rattle.std.specs.Prelude.{◌+◌, ◌-◌, ◌*◌, ◌/◌, ◌%◌, ℕ, List, min}
use Rattle.vol_base.specs.Bytes.{u32_at}
use Rattle.vol_layout.specs.declared.geometry.Geometry.{Geometry}

-- one for each four shards; the last may have fewer
abbrev pub shelves : Geometry → ℕ
shelves g = (g.shards + 3) / 4

-- how many shards a shelf has
abbrev pub blocks_of : Geometry → ℕ → ℕ
blocks_of g shelf = min (g.shards - 4 * shelf) 4

-- the shelf of a digest, of so many
abbrev pub shelf_of : ℕ → List ℕ → ℕ
shelf_of number digest = u32_at digest 0 % number
