-- Images: what the blocks of a device hold.
use Rattle.std.specs.Prelude.{◌≡◌, ◌≢◌, ℕ, Bool, List, [], codes, take, slice_index_or, slice_set, if◌then◌else◌}
use Rattle.std.specs.Str.{bytes_eq}
use Rattle.vol_base.specs.Bytes.{u32_at, zeros}
use Rattle.vol_layout.specs.declared.geometry.Geometry.{Geometry}
use Rattle.vol_layout.specs.declared.kind.Kind.{Kind}
use Rattle.vol_layout.specs.Places.{place_of}
use Rattle.vol_layout.specs.Ranges.{HasKind}

-- an image is the list of a device's blocks, each as its bytes
abbrev pub Image : Type 0
Image = List (List ℕ)

-- the block of a kind; past the image's end it is no bytes
unfoldable pub block_at : Geometry → Image → Kind → List ℕ
block_at g image kind = slice_index_or image (place_of g kind) []

-- the image with the block of one kind written
abbrev pub written : Geometry → Image → Kind → List ℕ → Image
written g image kind block = slice_set image (place_of g kind) block

-- no block but that of this kind changed
abbrev pub OnlyChanges : Geometry → Image → Image → Kind → Type 0
OnlyChanges g old new kind = (other : Kind) → HasKind g other → other ≢ kind → block_at g new other ≡ block_at g old other

-- block 0, which spells the geometry or is blank
abbrev pub first_block : Image → List ℕ
first_block image = slice_index_or image 0 []

-- an image is blank where block 0 is all zeros
abbrev pub IsBlank : Image → Type 0
IsBlank image = first_block image ≡ zeros 4096

abbrev pub is_blank : Image → Bool
is_blank image = bytes_eq (first_block image) (zeros 4096)

-- the geometry that the numbers of a superblock say; a volume of version 1 has one table block a file
unfoldable pub geometry_in : List ℕ → Geometry
geometry_in block =
    record {
      hosts = u32_at block 8;
      files = u32_at block 12;
      groups = u32_at block 16;
      parts = u32_at block 20;
      shards = u32_at block 24;
      logs = u32_at block 28;
      tables = if bytes_eq (take 8 block) (codes "DEDEVOL2") then u32_at block 32 else 1;
    }

abbrev pub geometry_of : Image → Geometry
geometry_of image = geometry_in (first_block image)
