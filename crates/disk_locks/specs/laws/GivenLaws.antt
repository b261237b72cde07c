-- The keys in the slots and locks of a valid image were given.
use Rattle.std.proofs.Common.{◌≡◌, ◌<◌, ◌≤◌, ◌/◌, ℕ, suc, List, ◌∷◌, length, inl, inr, slice_index, refl, arith}
use Rattle.std.proofs.lemmas.Bool.{cases_lt}
use Rattle.std.proofs.lemmas.List.{get_or_past}
use Rattle.vol_base.specs.Bytes.{u32_at, u64_at}
use Rattle.vol_layout.specs.declared.geometry.Geometry.{Geometry}
use Rattle.vol_layout.specs.declared.kind.Resource.{Resource}
use Rattle.slot_lock_blocks.specs.declared.lock.LockWord.{LockWord}
use Rattle.slot_lock_blocks.specs.declared.slot.Slot.{Slot}
use Rattle.slot_lock_blocks.specs.declared.slot.Slot.TheVariants.{Free, Live, Recovering}
use Rattle.slot_lock_blocks.specs.LockWords.{SpellsLock, lock_key, lock_readers, lock_state}
use Rattle.slot_lock_blocks.specs.Slots.{SpellsSlot, slot_key, slot_second, slot_state}
use Rattle.slot_lock_blocks.specs.laws.LockLaws.{lock_numbers}
use Rattle.slot_lock_blocks.specs.laws.SlotLaws.{slot_numbers}
use Rattle.image_view.specs.Spelled.{AreGiven, IsLockOf, IsSlotOf, slot_keys}
use Rattle.lock_store.specs.SlotTries.{slot_by}
use Rattle.disk_locks.specs.Agreement.{by_in, holder_in, live_in, reader_in, shown_in}

-- the key under which a slot is live, 0 where it is not
abbrev pub slot_live : Slot → ℕ
slot_live Free = 0
slot_live (Live key beat) = key.0
slot_live (Recovering key by) = 0

-- what the places of a slot's block hold
pub record SlotPlaces (block : List ℕ) (slot : Slot) : Type 0 where
  pub state : u32_at block 8 ≡ slot_state slot
  pub shown : shown_in block ≡ slot_key slot
  pub by : by_in block ≡ slot_by slot
  pub live : live_in block ≡ slot_live slot
  pub second : u64_at block 24 ≡ slot_second slot

pub slot_places : (block : List ℕ) (slot : Slot) → SpellsSlot block slot → SlotPlaces block slot
slot_places block Free spells =
    let n = slot_numbers block Free spells in
    record { state = n.state; shown = n.key; by = rw n.state refl; live = rw n.state refl; second = n.second }
slot_places block (Live key beat) spells =
    let n = slot_numbers block (Live key beat) spells in
    record { state = n.state; shown = n.key; by = rw n.state refl; live = rw n.state n.key; second = n.second }
slot_places block (Recovering key by) spells =
    let n = slot_numbers block (Recovering key by) spells in
    record { state = n.state; shown = n.key; by = rw n.state n.second; live = rw n.state refl; second = n.second }

none_given : (counter : ℕ) → 0 / 16 ≤ counter
none_given counter = omega arith

keys_given : (counter : ℕ) (slot : Slot) → AreGiven counter (slot_keys slot)
    → (slot_key slot / 16 ≤ counter) × (slot_by slot / 16 ≤ counter)
keys_given counter Free given = (none_given counter, none_given counter)
keys_given counter (Live key beat) given = (given 0 0 (omega arith), none_given counter)
keys_given counter (Recovering key by) given = (given 0 0 (omega arith), given 1 0 (omega arith))

-- the keys of a slot were given
pub slot_given : (counter y : ℕ) (block : List ℕ) → IsSlotOf counter y block
    → (shown_in block / 16 ≤ counter) × (by_in block / 16 ≤ counter)
slot_given counter y block s =
    let n = slot_places block s.slot s.spelled in
    let k = keys_given counter s.slot s.given in
    (rw n.shown k.0, rw n.by k.1)

-- what the places of a lock's block hold
pub record LockPlaces (block : List ℕ) (word : LockWord) : Type 0 where
  pub state : u32_at block 8 ≡ lock_state word
  pub holder : holder_in block ≡ lock_key word
  pub reader : (x : ℕ) → x < 16 → reader_in block x ≡ slice_index (lock_readers word) x

pub lock_places : (block : List ℕ) (word : LockWord) → SpellsLock block word → LockPlaces block word
lock_places block word spells =
    let n = lock_numbers block word spells in
    record { state = n.state; holder = n.key; reader = n.readers }

-- the keys of a lock were given
pub lock_given : (g : Geometry) (counter : ℕ) (r : Resource) (block : List ℕ) → IsLockOf g counter r block
    → (holder_in block / 16 ≤ counter) × ((x : ℕ) → x < 16 → reader_in block x / 16 ≤ counter)
lock_given g counter r block l =
    let n = lock_places block l.word l.spelled in (
      rw n.holder (l.given 0 0 (omega arith)),
      λ x below. rw (n.reader x below) (reader_given counter (lock_key l.word) (lock_readers l.word) l.given x),
    )
  where
    reader_given : (counter key : ℕ) (readers : List ℕ) → AreGiven counter (key ∷ readers) → (x : ℕ) → slice_index readers x / 16 ≤ counter
    reader_given counter key readers given x =
        elim (cases_lt x (length readers)) [
          | inl below ↦ given (suc x) 0 (omega (arith, below))
          | inr past ↦ rw (get_or_past readers x 0 past) (omega arith)
        ]
