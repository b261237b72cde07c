-- Locks, slots and records agree.
use Rattle.std.specs.Prelude.{◌≡◌, ◌≢◌, ◌⊎◌, ◌+◌, ◌%◌, ◌<◌, ℕ, true, List, []}
use Rattle.vol_layout.specs.declared.geometry.Geometry.{Geometry}
use Rattle.vol_layout.specs.declared.kind.Resource.{Resource}
use Rattle.vol_layout.specs.declared.field.Field.{Field}
use Rattle.vol_layout.specs.declared.field.Field.TheVariants.{Slot, Count}
use Rattle.vol_layout.specs.declared.field.Edit.{Edit}
use Rattle.vol_layout.specs.Edits.{edited, touches}
use Rattle.vol_layout.specs.Fields.{HasField, resource_of}
use Rattle.vol_layout.specs.Ranges.{HasResource}
use Rattle.image_view.specs.Images.{Image}
use Rattle.image_view.specs.Numbers.{field, journal}
use Rattle.image_view.specs.HostKeys.{IsHeldBy, journal_key_at, lock_key_at, lock_state_at, slot_key_at}

-- the key is shown by the slot of its host, which is a host of the volume and whose slot is not free
pub record IsShown (g : Geometry) (image : Image) (key : ℕ) : Type 0 where
  pub some : key ≢ 0
  pub host : key % 16 < g.hosts
  pub shown : slot_key_at g image (key % 16) ≡ key

-- the field is one of the volume's, and its resource is held by this key
abbrev pub HoldsField : Geometry → Image → ℕ → Field → Type 0
HoldsField g image key x = HasField g x × IsHeldBy g image (resource_of x) key

-- where slot s or the number n names the data number, the edits are of its count too
abbrev pub CountsNamed : Geometry → Image → List Edit → ℕ → ℕ → ℕ → Type 0
CountsNamed g image es s n d =
    (field g image (Slot s) ≡ d + 1) ⊎ (n ≡ d + 1)
    → touches es (Count d) ≡ true

-- the edits of slots come with an edit of the count of each data number that a slot names before or after them
abbrev pub CountsSlots : Geometry → Image → List Edit → Type 0
CountsSlots g image es =
    (s d : ℕ) → touches es (Slot s) ≡ true
    → CountsNamed g image es s (edited es (Slot s) (field g image (Slot s))) d

-- the same of one edit among them: where it is of a slot, the counts go with it
abbrev pub CountsEdit : Geometry → Image → List Edit → Edit → Type 0
CountsEdit g image es e = (s d : ℕ) → e.field ≡ Slot s → CountsNamed g image es s e.number d

-- each held lock's key is shown by its slot; each standing record has the key that its host's slot
-- shows, every resource that it edits is held by that key, and it counts the slots that it edits. Of a
-- read lock nothing is said: a key in it that no slot shows has ended.
pub record IsHeld (g : Geometry) (image : Image) : Type 0 where
  pub locks : (r : Resource) → HasResource g r → lock_state_at g image r ≡ 1 → IsShown g image (lock_key_at g image r)
  pub records : (h : ℕ) → h < g.hosts → journal g image h ≢ []
      → (slot_key_at g image h ≢ 0) × (journal_key_at g image h ≡ slot_key_at g image h)
  pub edits : (h : ℕ) (x : Field) → h < g.hosts → touches (journal g image h) x ≡ true → HoldsField g image (journal_key_at g image h) x
  pub slots : (h : ℕ) → h < g.hosts → CountsSlots g image (journal g image h)
