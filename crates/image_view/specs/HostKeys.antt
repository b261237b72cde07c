-- The keys that slots, locks and journals show, by the numbers at their bytes.
use Rattle.std.specs.Prelude.{◌≡◌, ◌+◌, ◌*◌, ◌==◌, ℕ, if◌then◌else◌}
use Rattle.vol_base.specs.Bytes.{u32_at, u64_at}
use Rattle.vol_layout.specs.declared.geometry.Geometry.{Geometry}
use Rattle.vol_layout.specs.declared.kind.Kind.TheVariants as kinds
use Rattle.vol_layout.specs.declared.kind.Resource.{Resource}
use Rattle.vol_layout.specs.Journal.{journal_key}
use Rattle.image_view.specs.Images.{Image, block_at}

-- the state of a host's slot: 0 free, 1 live, 2 recovering
unfoldable pub slot_state_at : Geometry → Image → ℕ → ℕ
slot_state_at g image h = u32_at (block_at g image (kinds.Slot h)) 8

-- the key that a host's slot shows, 0 for none; a recovering slot shows its key and never its `by`
unfoldable pub slot_key_at : Geometry → Image → ℕ → ℕ
slot_key_at g image h = u64_at (block_at g image (kinds.Slot h)) 16

-- the key under which a slot is live, 0 where it is not
unfoldable pub live_key_at : Geometry → Image → ℕ → ℕ
live_key_at g image h = if slot_state_at g image h == 1 then slot_key_at g image h else 0

-- the key of the host that recovers a slot, 0 where none does
unfoldable pub by_key_at : Geometry → Image → ℕ → ℕ
by_key_at g image h = if slot_state_at g image h == 2 then u64_at (block_at g image (kinds.Slot h)) 24 else 0

-- the state of a resource's lock: 0 free, 1 held, 2 read
unfoldable pub lock_state_at : Geometry → Image → Resource → ℕ
lock_state_at g image r = u32_at (block_at g image (kinds.Lock r)) 8

-- the key by which a lock is held, 0 for none
unfoldable pub lock_key_at : Geometry → Image → Resource → ℕ
lock_key_at g image r = u64_at (block_at g image (kinds.Lock r)) 16

-- the key under which a host reads the file of a lock, 0 for none
unfoldable pub reader_key_at : Geometry → Image → Resource → ℕ → ℕ
reader_key_at g image r h = u64_at (block_at g image (kinds.Lock r)) (64 + 8 * h)

-- the key of the record that stands in a host's journal, 0 where the journal is empty
unfoldable pub journal_key_at : Geometry → Image → ℕ → ℕ
journal_key_at g image h = journal_key (block_at g image (kinds.Journal h))

-- the lock of the resource is held, and by this key; a free lock and a read lock are held by no key
pub record IsHeldBy (g : Geometry) (image : Image) (r : Resource) (key : ℕ) : Type 0 where
  pub held : lock_state_at g image r ≡ 1
  pub by : lock_key_at g image r ≡ key
