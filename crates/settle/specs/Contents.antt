-- What the places of files hold.
use Rattle.std.specs.Prelude.{◌≡◌, ◌-◌, ℕ, Option, Some, option_map}
use Rattle.vol_base.specs.declared.block.Block.{Block}
use Rattle.vol_layout.specs.declared.field.Field.TheVariants.{Head, Pointer}
use Rattle.vol_layout.specs.declared.geometry.Geometry.{Geometry}
use Rattle.vol_layout.specs.Fields.{HasField}
use Rattle.image_view.specs.Files.{data_block}
use Rattle.image_view.specs.Images.{Image}
use Rattle.image_view.specs.Numbers.{logical}
use Rattle.share_plans.specs.Places.{shown_at}
use Rattle.fingerprint.specs.DigestOf.{digest_of}

-- the bytes of the data block that a file has at an index; none at a hole, at or past its length, and where the file is not there
unfoldable pub held : Geometry → Image → ℕ → ℕ → Option Block
held g image f i = option_map (data_block g image) (shown_at g image f i)

-- how many places a file has, holes included
abbrev pub places_in : Geometry → Image → ℕ → ℕ
places_in g image f = logical g image (Head f) - 1

-- no two places with different bytes have one digest; holes do not count
abbrev pub NoClash : Geometry → Image → Type 0
NoClash g image =
    (f i f' i' : ℕ) (b c : Block) → HasField g (Pointer f i) → HasField g (Pointer f' i')
    → held g image f i ≡ Some b → held g image f' i' ≡ Some c → digest_of b ≡ digest_of c → b ≡ c
