use Rattle.std.specs.Prelude.{◌≡◌, ◌<◌, ◌^◌, ℕ, List, ◌++◌, codes}
use Rattle.vol_base.specs.Bytes.{bytes_of, zeros}
use Rattle.slot_lock_blocks.specs.declared.slot.Slot.{Slot}
use Rattle.slot_lock_blocks.specs.declared.slot.Slot.TheVariants.{Free, Live, Recovering}
use Rattle.slot_lock_blocks.specs.Keys.{IsKey, header_bytes}

-- the number of a slot's state
abbrev pub slot_state : Slot → ℕ
slot_state Free = 0
slot_state (Live key beat) = 1
slot_state (Recovering key by) = 2

-- the key that a slot shows, 0 for none; a recovering slot shows its key, and never its `by`
abbrev pub slot_key : Slot → ℕ
slot_key Free = 0
slot_key (Live key beat) = key.0
slot_key (Recovering key by) = key.0

-- the second number of a slot: the beat of a live one, and `by` of a recovering one
abbrev pub slot_second : Slot → ℕ
slot_second Free = 0
slot_second (Live key beat) = beat
slot_second (Recovering key by) = by.0

-- a slot in range: no key is 0
abbrev pub IsSlot : Slot → Type 0
IsSlot Free = Unit {0}
IsSlot (Live key beat) = IsKey key.0 × (beat < 2 ^ 64)
IsSlot (Recovering key by) = IsKey key.0 × IsKey by.0

-- the one spelling of a slot
unfoldable pub slot_bytes : Slot → List ℕ
slot_bytes slot = header_bytes (codes "DEDESLOT") (slot_state slot) (slot_key slot) ++ bytes_of 8 (slot_second slot) ++ zeros 4064

-- the block spells this slot, which is in range
abbrev pub SpellsSlot : List ℕ → Slot → Type 0
SpellsSlot bytes slot = IsSlot slot × (bytes ≡ slot_bytes slot)
