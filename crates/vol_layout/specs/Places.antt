use Rattle.std.specs.Prelude.{◌<◌, ◌≤◌, ◌+◌, ◌-◌, ◌*◌, ℕ, List, [], ◌∷◌, Option, Some, None, nat_lt, if◌then◌else◌}
use Rattle.vol_layout.specs.declared.geometry.Geometry.{Geometry}
use Rattle.vol_layout.specs.declared.kind.Resource.TheVariants as resources
use Rattle.vol_layout.specs.declared.kind.Table.TheVariants as tables
use Rattle.vol_layout.specs.declared.kind.Kind.{Kind}
use Rattle.vol_layout.specs.declared.kind.Kind.TheVariants as kinds
use Rattle.vol_layout.specs.Regions.{Region, regions, start, total}

-- the region of a kind of block, and its number in that region
abbrev pub seat : Geometry → Kind → ℕ × ℕ
seat g kinds.Super = (0, 0)
seat g (kinds.Slot h) = (1, h)
seat g (kinds.Journal h) = (2, h)
seat g (kinds.Lock (resources.File f)) = (3, f)
seat g (kinds.Lock (resources.Part p)) = (4, p)
seat g (kinds.Lock (resources.Group r)) = (5, r)
seat g (kinds.Table (tables.File f)) = (6, f)
seat g (kinds.Table (tables.Group r)) = (7, r)
seat g (kinds.Table (tables.Part p)) = (8, p)
seat g (kinds.Log h l) = (9, h * g.logs + l)
seat g (kinds.Shard s) = (10, s)
seat g (kinds.Request f) = (11, f)
seat g (kinds.Number d) = (12, d)
seat g (kinds.Table (tables.More f t)) = (13, f * (g.tables - 1) + (t - 1))

-- the place of a block of this kind
unfoldable pub place_of : Geometry → Kind → ℕ
place_of g k = start (regions g) (seat g k).0 + (seat g k).1

-- the kind of block at a place, counted from the first of the regions
abbrev pub kind_in : List Region → ℕ → Option Kind
kind_in [] p = None
kind_in (x ∷ xs) p = if nat_lt p x.size then Some (x.kind p) else kind_in xs (p - x.size)

-- the kind of block at a place; none past the last region
unfoldable pub kind_at : Geometry → ℕ → Option Kind
kind_at g p = kind_in (regions g) p

-- the first place behind the slots, journals, locks and first tables, which stand at the volume's front
abbrev pub front_end : Geometry → ℕ
front_end g = place_of g (kinds.Log 0 0)

-- how many further table blocks a volume has, behind its data
abbrev pub further_tables : Geometry → ℕ
further_tables g = g.files * (g.tables - 1)

-- the place of the first further table block
abbrev pub further_start : Geometry → ℕ
further_start g = total g - further_tables g

-- a place of the volume's front, behind the superblock
abbrev pub IsAtFront : Geometry → ℕ → Type 0
IsAtFront g place = (1 ≤ place) × (place < front_end g)

-- the place of a further table, at the volume's end
abbrev pub IsAtEnd : Geometry → ℕ → Type 0
IsAtEnd g place = (further_start g ≤ place) × (place < total g)
