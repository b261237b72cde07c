-- What slots and locks may say.
use Rattle.std.specs.Prelude.{◌≡◌, ◌≢◌, ◌/◌, ◌%◌, ◌<◌, ◌≤◌, ℕ, List, ◌∷◌, slice_index}
use Rattle.vol_layout.specs.declared.geometry.Geometry.{Geometry}
use Rattle.vol_layout.specs.declared.kind.Resource.{Resource}
use Rattle.vol_layout.specs.declared.kind.Resource.TheVariants as resources
use Rattle.slot_lock_blocks.specs.declared.slot.Slot.{Slot}
use Rattle.slot_lock_blocks.specs.declared.lock.LockWord.{LockWord}
use Rattle.slot_lock_blocks.specs.LockWords.{lock_key, lock_readers}
use Rattle.slot_lock_blocks.specs.Slots.{slot_key}
use Rattle.image_view.specs.Spelled.{AreGiven, MayBe, slot_keys}

-- a host's slot may show these keys
abbrev pub MayShow : ℕ → ℕ → Slot → Type 0
MayShow counter h slot = (slot_key slot ≢ 0 → slot_key slot % 16 ≡ h) × AreGiven counter (slot_keys slot)

-- a resource's lock may say this
abbrev pub MaySay : Geometry → ℕ → Resource → LockWord → Type 0
MaySay g counter r word = MayBe g r word × AreGiven counter (lock_key word ∷ lock_readers word)

abbrev pub IsFile : Resource → Type 0
IsFile (resources.File f) = Unit {0}
IsFile (resources.Part p) = ⊥
IsFile (resources.Group r) = ⊥

-- the key of a reader, or 0: only a host of the volume has one, and the device gave it
abbrev pub IsReaderOf : Geometry → ℕ → List ℕ → ℕ → Type 0
IsReaderOf g counter readers h = (g.hosts ≤ h → slice_index readers h ≡ 0) × (slice_index readers h / 16 ≤ counter)

-- all keys of a lock's readers are of that sort
abbrev pub AreReadersOf : Geometry → ℕ → List ℕ → Type 0
AreReadersOf g counter readers = (h : ℕ) → h < 16 → IsReaderOf g counter readers h
