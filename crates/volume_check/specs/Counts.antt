-- How often each data number is mapped, one number a data block.
use Rattle.std.specs.Prelude.{◌≡◌, ◌+◌, ◌<◌, ◌==◌, ℕ, List, length, slice_index, sum_by, if◌then◌else◌}
use Rattle.std.specs.List.{range_with_len}
use Rattle.vol_layout.specs.declared.field.Edit.{Edit}
use Rattle.vol_layout.specs.declared.kind.Table.{Table}
use Rattle.vol_layout.specs.declared.kind.Table.TheVariants as tables
use Rattle.vol_layout.specs.declared.field.Field.TheVariants.{Pointer, Slot}
use Rattle.vol_layout.specs.Ranges.{arena_slots, data_blocks, limit}
use Rattle.image_view.specs.Balances.{share}
use Rattle.image_view.specs.Mappings.{uses}
use Rattle.image_view.specs.Numbers.{logical, standing}
use Rattle.volume_check.specs.Metadatas.{Metadata}

-- these are the edits of all standing records
abbrev pub AreStanding : Metadata → List Edit → Type 0
AreStanding m edits = edits ≡ standing m.geometry m.image

-- each number is how often its data block is mapped
pub record AreUses (m : Metadata) (numbers : List ℕ) : Type 0 where
  pub long : length numbers ≡ data_blocks m.geometry
  pub each : (d : ℕ) → d < data_blocks m.geometry → slice_index numbers d ≡ uses m.geometry m.image d

-- how often the pointers of a file name a data block
abbrev pub named_by_file : Metadata → ℕ → ℕ → ℕ
named_by_file m f d = sum_by (λ i. share (logical m.geometry m.image (Pointer f i)) d) (range_with_len 0 (limit m.geometry))

-- how often the slots of the arena name it
abbrev pub named_by_slots : Metadata → ℕ → ℕ
named_by_slots m d = sum_by (λ s. share (logical m.geometry m.image (Slot s)) d) (range_with_len 0 (arena_slots m.geometry))

-- each number grew by so much
pub record Grew (more : ℕ → ℕ) (old new : List ℕ) : Type 0 where
  pub long : length new ≡ length old
  pub each : (d : ℕ) → d < length old → slice_index new d ≡ slice_index old d + more d

-- the table block of a file, by its number from 0
abbrev pub file_table : ℕ → ℕ → Table
file_table f t = if t == 0 then tables.File f else tables.More f t
