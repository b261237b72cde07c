-- Tries of slots: what may be found, and what a try did.
use Rattle.std.specs.Prelude.{◌≡◌, ◌≢◌, ◌%◌, ℕ, List, Result, Ok, Err, true}
use Rattle.vol_layout.specs.declared.kind.Kind.TheVariants as kinds
use Rattle.vol_layout.specs.Places.{place_of}
use Rattle.shared_disk.specs.Events.{Done, Shows}
use Rattle.slot_lock_blocks.specs.declared.slot.Slot.{Slot}
use Rattle.slot_lock_blocks.specs.declared.slot.Slot.TheVariants.{Free, Live, Recovering}
use Rattle.slot_lock_blocks.specs.Slots.{IsSlot, SpellsSlot, slot_bytes, slot_key}
use Rattle.lock_store.specs.declared.answers.Claim.{Claim}
use Rattle.lock_store.specs.declared.answers.Claim.TheVariants as claim
use Rattle.lock_store.specs.declared.answers.StepNo.{StepNo}
use Rattle.lock_store.specs.declared.host.HostState.{HostState}
use Rattle.lock_store.specs.declared.purpose.SlotUse.{SlotUse}
use Rattle.lock_store.specs.declared.purpose.SlotUse.TheVariants as uses
use Rattle.lock_store.specs.Events.{Did, IsRefusal, read_of, swap_of}
use Rattle.lock_store.specs.Memories.{claim_of, key_of}
use Rattle.lock_store.specs.Views.{LocksView, host_at}

-- the key of the host that recovers the slot, 0 where none does
abbrev pub slot_by : Slot → ℕ
slot_by Free = 0
slot_by (Live key beat) = 0
slot_by (Recovering key by) = by.0

-- the slot's key is one of its host
abbrev pub IsOfHost : ℕ → Slot → Type 0
IsOfHost y slot = slot_key slot ≢ 0 → slot_key slot % 16 ≡ y

-- a slot that a host reads or finds may stand there: it has the own key as `by` only where the host claimed it, it shows the
-- own key only where the host is joined, and a claimed slot that is entered still stands, with nothing changed
abbrev pub MayShow : SlotUse → ℕ → HostState → Slot → Type 0
MayShow uses.Look y m slot = slot_by slot ≡ key_of m → claim_of m y ≢ 0
MayShow uses.Take y m slot = (slot_by slot ≡ key_of m → claim_of m y ≢ 0) × (slot_key slot ≡ key_of m → m.joined ≡ true)
MayShow uses.Retake y m slot = (slot_by slot ≢ key_of m) × (slot_key slot ≡ key_of m → m.joined ≡ true) × (slot ≢ Free)
MayShow uses.Clear y m slot = Unit {0}

-- the block is of its kind where it is seen in this use
abbrev pub FitsSlot : SlotUse → ℕ → HostState → List ℕ → Type 0
FitsSlot use_ y m block = (slot : Slot) × SpellsSlot block slot × IsOfHost y slot × MayShow use_ y m slot

-- a try of a slot from one content to another, after which the host's memory is m: taken, another slot found, or refused
abbrev pub TriesSlot : LocksView → ℕ → ℕ → SlotUse → Slot → Slot → HostState → Result Claim StepNo → LocksView → Type 0
TriesSlot v h y use_ from to m (Ok claim.Claimed) w =
    Did v h (swap_of v (kinds.Slot y) (slot_bytes from) (slot_bytes to)) Done m w
TriesSlot v h y use_ from to m (Ok (claim.Found slot)) w =
    Did v h (swap_of v (kinds.Slot y) (slot_bytes from) (slot_bytes to)) (Shows (slot_bytes slot)) (host_at v h) w
    × IsSlot slot × IsOfHost y slot × MayShow use_ y (host_at v h) slot
TriesSlot v h y use_ from to m (Err why) w =
    IsRefusal v h (swap_of v (kinds.Slot y) (slot_bytes from) (slot_bytes to)) (place_of v.geometry (kinds.Slot y))
    (FitsSlot use_ y (host_at v h)) why w

-- a slot was read, and may stand there
abbrev pub ReadsSlot : LocksView → ℕ → ℕ → Result Slot StepNo → LocksView → Type 0
ReadsSlot v h y (Ok slot) w =
    Did v h (read_of v (kinds.Slot y)) (Shows (slot_bytes slot)) (host_at v h) w
    × IsSlot slot × IsOfHost y slot × MayShow uses.Look y (host_at v h) slot
ReadsSlot v h y (Err why) w =
    IsRefusal v h (read_of v (kinds.Slot y)) (place_of v.geometry (kinds.Slot y)) (FitsSlot uses.Look y (host_at v h)) why w
