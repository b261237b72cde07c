use Rattle.std.specs.Prelude.{◌*◌, ◌<◌, ◌≤◌, ◌&&◌, ℕ, Bool, nat_le}
use Rattle.vol_layout.specs.declared.geometry.Geometry.{Geometry}
use Rattle.vol_layout.specs.declared.kind.Resource.{Resource}
use Rattle.vol_layout.specs.declared.kind.Resource.TheVariants as resources
use Rattle.vol_layout.specs.declared.kind.Table.{Table}
use Rattle.vol_layout.specs.declared.kind.Table.TheVariants as tables
use Rattle.vol_layout.specs.declared.kind.Kind.{Kind}
use Rattle.vol_layout.specs.declared.kind.Kind.TheVariants as kinds

-- each number of a geometry is in its range
pub record IsGeometry (g : Geometry) : Type 0 where
  pub hosts : (1 ≤ g.hosts) × (g.hosts ≤ 16)
  pub files : (1 ≤ g.files) × (g.files ≤ 64)
  pub groups : (1 ≤ g.groups) × (g.groups ≤ 64)
  pub parts : (1 ≤ g.parts) × (g.parts ≤ 16)
  pub shards : (1 ≤ g.shards) × (g.shards ≤ 64)
  pub logs : (1 ≤ g.logs) × (g.logs ≤ 16)
  pub tables : (1 ≤ g.tables) × (g.tables ≤ 16)

-- a number of things of which there is at least one
abbrev pub is_count : ℕ → ℕ → Bool
is_count most n = nat_le 1 n && nat_le n most

-- the test of the same ranges
abbrev pub is_geometry : Geometry → Bool
is_geometry g =
    is_count 16 g.hosts && is_count 64 g.files && is_count 64 g.groups
    && is_count 16 g.parts && is_count 64 g.shards && is_count 16 g.logs && is_count 16 g.tables

-- how many numbers a table block holds
unfoldable pub per_table : ℕ
per_table = 1008

-- the greatest length of a file, in blocks
unfoldable pub limit : Geometry → ℕ
limit g = per_table * g.tables

-- how many data blocks a volume has
unfoldable pub data_blocks : Geometry → ℕ
data_blocks g = per_table * g.groups

-- how many slots the arena has
unfoldable pub arena_slots : Geometry → ℕ
arena_slots g = per_table * g.parts

-- a resource of the volume
abbrev pub HasResource : Geometry → Resource → Type 0
HasResource g (resources.File f) = f < g.files
HasResource g (resources.Part p) = p < g.parts
HasResource g (resources.Group r) = r < g.groups

-- a table block of the volume
abbrev pub HasTable : Geometry → Table → Type 0
HasTable g (tables.File f) = f < g.files
HasTable g (tables.Group r) = r < g.groups
HasTable g (tables.Part p) = p < g.parts
HasTable g (tables.More f t) = (f < g.files) × (1 ≤ t) × (t < g.tables)

-- a kind of block that the volume has
abbrev pub HasKind : Geometry → Kind → Type 0
HasKind g kinds.Super = Unit {0}
HasKind g (kinds.Slot h) = h < g.hosts
HasKind g (kinds.Journal h) = h < g.hosts
HasKind g (kinds.Lock r) = HasResource g r
HasKind g (kinds.Table t) = HasTable g t
HasKind g (kinds.Log h l) = (h < g.hosts) × (l < g.logs)
HasKind g (kinds.Shard s) = s < g.shards
HasKind g (kinds.Request f) = f < g.files
HasKind g (kinds.Number d) = d < data_blocks g
