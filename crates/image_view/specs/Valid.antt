-- Valid images.
use Rattle.std.specs.Prelude.{◌⊎◌, ◌<◌, ◌≤◌, ℕ, length}
use Rattle.vol_layout.specs.declared.geometry.Geometry.{Geometry}
use Rattle.vol_layout.specs.declared.kind.Kind.TheVariants as kinds
use Rattle.vol_layout.specs.declared.kind.Resource.{Resource}
use Rattle.vol_layout.specs.declared.kind.Table.{Table}
use Rattle.vol_layout.specs.declared.field.Field.{Field}
use Rattle.vol_layout.specs.Fields.{HasField, IsInRange}
use Rattle.vol_layout.specs.Ranges.{HasResource, HasTable}
use Rattle.vol_layout.specs.Regions.{total}
use Rattle.vol_layout.specs.Superblock.{SpellsGeometry}
use Rattle.image_view.specs.Images.{Image, IsBlank, block_at, first_block, geometry_of}
use Rattle.image_view.specs.Numbers.{field}
use Rattle.image_view.specs.Spelled.{IsJournal, IsLockOf, IsSlotOf, IsTable}
use Rattle.image_view.specs.Held.{IsHeld}
use Rattle.image_view.specs.Counted.{IsCounted}

-- a valid volume of this geometry, on a device whose counter is this: every superblock, slot, journal,
-- lock and table is a spelling in range, locks, slots and records agree, and the counts are the mappings.
-- Nothing is said of logs, shards, requests and data blocks.
pub record IsValid (g : Geometry) (counter : ℕ) (image : Image) : Type 0 where
  pub geometry : SpellsGeometry (first_block image) g
  pub long : total g ≤ length image
  pub slots : (h : ℕ) → h < g.hosts → IsSlotOf counter h (block_at g image (kinds.Slot h))
  pub journals : (h : ℕ) → h < g.hosts → IsJournal g counter (block_at g image (kinds.Journal h))
  pub locks : (r : Resource) → HasResource g r → IsLockOf g counter r (block_at g image (kinds.Lock r))
  pub tables : (t : Table) → HasTable g t → IsTable t (block_at g image (kinds.Table t))
  pub numbers : (x : Field) → HasField g x → IsInRange g x (field g image x)
  pub held : IsHeld g image
  pub counted : IsCounted g image

-- a valid image: its block 0 says the geometry
abbrev pub IsVolume : ℕ → Image → Type 0
IsVolume counter image = IsValid (geometry_of image) counter image

-- a blank image, or a valid one
abbrev pub IsBlankOrValid : ℕ → Image → Type 0
IsBlankOrValid counter image = IsBlank image ⊎ IsVolume counter image
