-- The image that formatting leaves.
use Rattle.std.specs.Prelude.{◌≡◌, ◌<◌, ◌≤◌, ℕ, length}
use Rattle.vol_layout.specs.declared.geometry.Geometry.{Geometry}
use Rattle.vol_layout.specs.declared.kind.Kind.TheVariants as kinds
use Rattle.vol_layout.specs.declared.kind.Resource.{Resource}
use Rattle.vol_layout.specs.declared.kind.Table.{Table}
use Rattle.vol_layout.specs.Blank.{blank_bytes}
use Rattle.vol_layout.specs.Ranges.{HasResource, HasTable, IsGeometry}
use Rattle.vol_layout.specs.Regions.{total}
use Rattle.image_view.specs.Images.{Image, block_at, first_block}

-- superblock, slots, journals, locks and tables are as formatting writes them; hint and data blocks may
-- hold anything
pub record IsFormatted (g : Geometry) (image : Image) : Type 0 where
  pub geometry : IsGeometry g
  pub long : total g ≤ length image
  pub superblock : first_block image ≡ blank_bytes g kinds.Super
  pub slots : (h : ℕ) → h < g.hosts → block_at g image (kinds.Slot h) ≡ blank_bytes g (kinds.Slot h)
  pub journals : (h : ℕ) → h < g.hosts → block_at g image (kinds.Journal h) ≡ blank_bytes g (kinds.Journal h)
  pub locks : (r : Resource) → HasResource g r → block_at g image (kinds.Lock r) ≡ blank_bytes g (kinds.Lock r)
  pub tables : (t : Table) → HasTable g t → block_at g image (kinds.Table t) ≡ blank_bytes g (kinds.Table t)
