-- A block that a file shows and nothing else names.
use Rattle.std.specs.Prelude.{◌≡◌, ◌+◌, ◌<◌, ℕ, true, []}
use Rattle.vol_layout.specs.declared.geometry.Geometry.{Geometry}
use Rattle.vol_layout.specs.declared.field.Field.{Field}
use Rattle.vol_layout.specs.declared.field.Field.TheVariants.{Head, Pointer, Slot}
use Rattle.vol_layout.specs.Fields.{HasField, resource_of}
use Rattle.image_view.specs.Balances.{share_of}
use Rattle.image_view.specs.Images.{Image}
use Rattle.image_view.specs.Numbers.{logical}
use Rattle.lock_store.specs.Memories.{may_read}
use Rattle.lock_store.specs.Views.{host_at}
use Rattle.disk_locks.specs.Sure.{Sure}
use Rattle.host_facts.specs.Facts.Fact.{RecordIs, SlotIs}
use Rattle.host_facts.specs.Knows.{Knows}
use Rattle.host_facts.specs.Views.{WorldView}

-- the file's pointer below its length is the number of the data block, without the mark
pub record IsOwnBlock (g : Geometry) (f i d : ℕ) (image : Image) : Type 0 where
  pub inside : i + 1 < logical g image (Head f)
  pub pointer : logical g image (Pointer f i) ≡ d + 1

-- the host may read what names the data block: a field, or a slot while no own record stands
abbrev pub MayName : WorldView → ℕ → Field → ℕ → Type 0
MayName v h (Slot s) d = Knows v h (SlotIs s d) × Knows v h (RecordIs [])
MayName v h x d =
    HasField v.locks.geometry x × (may_read (host_at v.locks h) (resource_of x) ≡ true)
    × Sure v.locks h (λ image. share_of x (logical v.locks.geometry image x) d ≡ 1)
