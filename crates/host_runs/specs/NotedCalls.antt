-- What the calls of a command did, by the kind of block at their place.
use Rattle.std.specs.Prelude.{◌≡◌, ℕ, List, Option, Some, None, Contains, sum_by}
use Rattle.std.specs.Option.{option_map_or}
use Rattle.vol_layout.specs.declared.geometry.Geometry.{Geometry}
use Rattle.vol_layout.specs.declared.kind.Kind.{Kind}
use Rattle.vol_layout.specs.Places.{kind_at}
use Rattle.slot_lock_blocks.specs.Slots.{SpellsSlot}
use Rattle.slot_lock_blocks.specs.declared.slot.Slot.{Slot}
use Rattle.shared_disk.specs.Events.{Call, Event, Reply, Done, Reads, Shows, Tests, Writes}
use Rattle.host_runs.specs.DeviceCalls.{HasDone, HasShown}
use Rattle.host_runs.specs.Notes.{NotedCall}

-- the call read or found this block, of this kind
abbrev pub ShowsKind : Geometry → Kind → List ℕ → Option Event → Type 0
ShowsKind g kind block made = (place : ℕ) × (kind_at g place ≡ Some kind) × HasShown place block made

-- the call read or found this slot of a host
abbrev pub ShowsSlot : Geometry → Kind → Slot → Option Event → Type 0
ShowsSlot g kind slot made = (block : List ℕ) × ShowsKind g kind block made × SpellsSlot block slot

-- the call wrote this block over one of this kind
abbrev pub WritesKind : Geometry → Kind → List ℕ → Option Event → Type 0
WritesKind g kind block made = (place : ℕ) × (kind_at g place ≡ Some kind) × HasDone (Writes place block) made

-- the call changed a block of this kind from one to another by a test-and-set
abbrev pub SwapsKind : Geometry → Kind → List ℕ → List ℕ → Option Event → Type 0
SwapsKind g kind old new made = (place : ℕ) × (kind_at g place ≡ Some kind) × HasDone (Tests place old new) made

-- one of the calls is so
abbrev pub SomeCall : (Option Event → Type 0) → List NotedCall → Type 0
SomeCall P calls = (c : NotedCall) × Contains calls c × P (Some c.event)

-- the block that a call read, with its kind
abbrev pub kind_read : Geometry → Call → Reply → Option (Option Kind × List ℕ)
kind_read g (Reads place) (Shows block) = Some (kind_at g place, block)
kind_read g call reply = None

-- the block that a call wrote, with its kind
abbrev pub kind_written : Geometry → Call → Reply → Option (Option Kind × List ℕ)
kind_written g (Writes place block) Done = Some (kind_at g place, block)
kind_written g call reply = None

-- a number of each block that the calls read, added up; and of each block that they wrote
abbrev pub sum_read : Geometry → (Option Kind → List ℕ → ℕ) → List NotedCall → ℕ
sum_read g number calls = sum_by (λ c. option_map_or (λ b. number b.0 b.1) (kind_read g c.event.call c.event.reply) 0) calls

abbrev pub sum_written : Geometry → (Option Kind → List ℕ → ℕ) → List NotedCall → ℕ
sum_written g number calls = sum_by (λ c. option_map_or (λ b. number b.0 b.1) (kind_written g c.event.call c.event.reply) 0) calls
