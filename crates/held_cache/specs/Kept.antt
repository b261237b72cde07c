-- The tables that are kept for the hosts of a volume.
use Rattle.std.specs.Prelude.{◌≡◌, ◌<◌, ◌≤◌, ◌+◌, ◌*◌, ℕ, List, Option, None, slice_index_or}
use Rattle.vol_base.specs.Packing.{Packing}
use Rattle.vol_layout.specs.Sizes.{file_tables}
use Rattle.vol_layout.specs.declared.geometry.Geometry.{Geometry}
use Rattle.vol_layout.specs.declared.kind.Table.{Table}
use Rattle.vol_layout.specs.declared.kind.Table.TheVariants.{File, Group, Part, More}

-- a table block of a file of the volume
abbrev pub IsFileTable : Geometry → Table → Type 0
IsFileTable g (File file) = file < g.files
IsFileTable g (More file block) = (file < g.files) × (1 ≤ block) × (block < g.tables)
IsFileTable g (Group group) = ⊥
IsFileTable g (Part part) = ⊥

-- a host of the volume, and a table that may be kept for it
abbrev pub CanKeep : Geometry → ℕ → Table → Type 0
CanKeep g host which = (host < g.hosts) × IsFileTable g which

-- what is kept: a volume, and for each of its hosts and file tables nothing or a table
pub record Cache : Type 0 where
  pub volume : Geometry
  pub places : List (Option Packing)

-- how many places a volume has: one for each host and file table
abbrev pub places_of : Geometry → ℕ
places_of g = g.hosts * file_tables g

-- the number of a file table among those of all files, file by file
abbrev pub number_of : Geometry → Table → ℕ
number_of g (File file) = file * g.tables
number_of g (More file block) = file * g.tables + block
number_of g (Group group) = 0
number_of g (Part part) = 0

-- the place of a file table of a host, host by host
abbrev pub place_of : Geometry → ℕ → Table → ℕ
place_of g host which = host * file_tables g + number_of g which

-- the table that is kept for a host; of groups and parts none is
abbrev pub kept_at : Cache → ℕ → Table → Option Packing
kept_at cache host (File file) = slice_index_or cache.places (place_of cache.volume host (File file)) None
kept_at cache host (More file block) = slice_index_or cache.places (place_of cache.volume host (More file block)) None
kept_at cache host (Group group) = None
kept_at cache host (Part part) = None

-- for one host one table is kept, or none any more, and all else is kept as before
pub record ChangesOnly (old new : Cache) (host : ℕ) (which : Table) (table : Option Packing) : Type 0 where
  pub volume : new.volume ≡ old.volume
  pub changed : kept_at new host which ≡ table
  pub others : (h : ℕ) (t : Table) → CanKeep old.volume h t → (h ≡ host → t ≡ which → ⊥) → kept_at new h t ≡ kept_at old h t

-- for one host no table is kept any more, and all else is kept as before
pub record ForgetsHost (old new : Cache) (host : ℕ) : Type 0 where
  pub volume : new.volume ≡ old.volume
  pub forgotten : (t : Table) → IsFileTable old.volume t → kept_at new host t ≡ None
  pub others : (h : ℕ) (t : Table) → CanKeep old.volume h t → (h ≡ host → ⊥) → kept_at new h t ≡ kept_at old h t
