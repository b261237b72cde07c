-- The causes of the answers that come of a slot: to `join`, `look` and `recover`.
use Rattle.std.specs.Prelude.{◌≡◌, ◌≢◌, ◌⊎◌, ◌<◌, ℕ, List, [], Option, Some, Contains}
use Rattle.vol_base.specs.declared.block.Key.{Key}
use Rattle.vol_layout.specs.Ranges.{HasResource}
use Rattle.vol_layout.specs.declared.kind.Kind.TheVariants as kinds
use Rattle.vol_layout.specs.declared.kind.Resource.{Resource}
use Rattle.slot_lock_blocks.specs.Slots.{slot_bytes}
use Rattle.slot_lock_blocks.specs.declared.slot.Slot.{Slot}
use Rattle.slot_lock_blocks.specs.declared.slot.Slot.TheVariants as slots
use Rattle.shared_disk.specs.Events.{Event, Tests}
use Rattle.image_view.specs.HostKeys.{IsHeldBy, slot_state_at}
use Rattle.image_view.specs.Images.{Image}
use Rattle.image_view.specs.Numbers.{journal}
use Rattle.watch.specs.declared.watch.Look.{Look}
use Rattle.watch.specs.Looks.{IsLook, count_of, look_at}
use Rattle.host_runs.specs.Moments.{Moment}
use Rattle.host_runs.specs.NotedCalls.{ShowsSlot, SomeCall, SwapsKind}
use Rattle.host_runs.specs.Words.{key_in, state_in}

-- the host's own slot was set live under this key, the one that it registered, with no beat yet
pub record HasEntered (m : Moment) (key : Key) : Type 0 where
  pub registered : m.now.memory.key ≡ Some key.0
  pub old : List ℕ
  pub entered : SwapsKind m.geometry (kinds.Slot m.host) old (slot_bytes (slots.Live key 0)) m.event

-- the slot was read, and with it was seen so often in a row
pub record HasSeen (m : Moment) (of : ℕ) (n : ℕ) : Type 0 where
  pub slot : Slot
  pub shown : ShowsSlot m.geometry (kinds.Slot of) slot m.event
  pub taken : slot ≢ slots.Free
  pub look : Option Look
  pub looked : IsLook slot (look_at m.old.watch of) look
  pub count : n ≡ count_of look

-- the claim of a slot found this slot in its place
pub record ClaimFinds (m : Moment) (of : ℕ) (slot : Slot) : Type 0 where
  pub claiming : Contains m.old.memory.claims of → ⊥
  pub found : ShowsSlot m.geometry (kinds.Slot of) slot m.event

-- the claim found a live slot: under another key than the one that it was made from, or again
pub record ClaimFindsLive (m : Moment) (of : ℕ) : Type 0 where
  pub key : Key
  pub beat : ℕ
  pub found : ClaimFinds m of (slots.Live key beat)
  pub other : (e : Event) (place : ℕ) (old new : List ℕ) → m.event ≡ Some e → e.call ≡ Tests place old new
      → (key_in old ≢ key.0) ⊎ (0 < m.old.tries.count)

-- the slot is free, the journal is empty, and no lock is held by the key that the slot was claimed from
pub record IsRecovered (m : Moment) (of : ℕ) (image : Image) : Type 0 where
  pub slot : slot_state_at m.geometry image of ≡ 0
  pub journal : journal m.geometry image of ≡ []
  pub locks : (old new : List ℕ) (r : Resource) → SomeCall (SwapsKind m.geometry (kinds.Slot of) old new) m.now.calls → state_in new ≡ 2
      → HasResource m.geometry r → IsHeldBy m.geometry image r (key_in new) → ⊥
