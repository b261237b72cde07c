-- What the notes of a recovery say at each of its stages.
use Rattle.std.specs.Prelude.{◌≡◌, ◌⊎◌, ◌+◌, ℕ, Contains, List, None, Option, Some}
use Rattle.vol_base.specs.declared.command.Command.{Command}
use Rattle.vol_base.specs.declared.command.Command.TheVariants.{Join, Recover}
use Rattle.vol_layout.specs.declared.kind.Kind.TheVariants as kinds
use Rattle.slot_lock_blocks.specs.declared.slot.Slot.{Slot}
use Rattle.slot_lock_blocks.specs.Slots.{slot_bytes}
use Rattle.image_view.specs.Spelled.{slot_keys}
use Rattle.lock_store.specs.SlotTries.{slot_by}
use Rattle.lock_store.specs.Views.{host_at, key_at}
use Rattle.watch.specs.declared.watch.Look.{Look}
use Rattle.host_runs.specs.CallRights.{MayFence}
use Rattle.host_runs.specs.Notes.{NotedCall, Notes}
use Rattle.host_runs.specs.NotedCalls.{SomeCall, SwapsKind}
use Rattle.host_runs.specs.Tries.{no_tries, with_slot}
use Rattle.host_runs.specs.Words.{key_in, state_in}
use Rattle.host_facts.specs.Views.{WorldView}
use Rattle.host_notes.specs.Remembered.{IsRemembered}
use Rattle.vol_layout.specs.declared.geometry.Geometry.{Geometry}
use Rattle.recover_plan.specs.declared.replay.Going.{Going}
use Rattle.recover_plan.specs.declared.replay.Going.TheVariants.{Found, More, Ready}
use Rattle.recover_plan.specs.declared.replay.Replay.{Replay}
use Rattle.recover_plan.specs.declared.replay.Replay.TheVariants.{Claim, Clear, Fence, FenceBy, Journal, Read, Sweep, Write}

-- the command recovers this slot: a `join` the own one, a `recover` that of its host
abbrev pub Recovers : Command → ℕ → ℕ → Type 0
Recovers command h of = ((command ≡ Join) × (of ≡ h)) ⊎ (command ≡ Recover of)

-- the calls that set the slot to a recovering one did it from this dead key; none did where there is no such key
abbrev pub AreFrom : Geometry → ℕ → Option ℕ → List NotedCall → Type 0
AreFrom g of dead calls =
    (old new : List ℕ) → SomeCall (SwapsKind g (kinds.Slot of) old new) calls → state_in new ≡ 2 → dead ≡ Some (key_in new)

-- the notes of a recovery under way agree with the host's memory; its tries showed this key, and its claim, if one was made, was made
-- from this dead key
pub record IsUnderWay (h of : ℕ) (v : WorldView) (watch : List (Option Look)) (dead shown : Option ℕ) (n : Notes) : Type 0 where
  pub remembered : IsRemembered v.locks.geometry n.memory (host_at v.locks h)
  pub placed_is : n.placed ≡ None
  pub asks : n.asks ≡ None
  pub watch_is : n.watch ≡ watch
  pub shown_is : n.tries.shown ≡ shown
  pub from : AreFrom v.locks.geometry of dead n.calls

-- the dead key from which the slot was claimed, once it was
abbrev pub dead_of : Replay → Option ℕ
dead_of (Fence slot) = None
dead_of (FenceBy slot) = None
dead_of (Claim slot) = None
dead_of (Journal dead) = Some dead.0
dead_of (Read dead entry k) = Some dead.0
dead_of (Write dead entry k kept) = Some dead.0
dead_of (Clear dead) = Some dead.0
dead_of (Sweep dead k) = Some dead.0

-- the command may take off the keys that are to be taken off yet
abbrev pub MayTakeOff : Command → ℕ → ℕ → List (Option Look) → Replay → Type 0
MayTakeOff command h own watch (Fence slot) = (target : ℕ) → Contains (slot_keys slot) target → MayFence command h own target watch
MayTakeOff command h own watch (FenceBy slot) = MayFence command h own (slot_by slot) watch
MayTakeOff command h own watch stage = Unit {0}

-- before a step: k claims found another slot, and no key was shown that has to be answered
pub record StageNoted (command : Command) (h of : ℕ) (watch : List (Option Look)) (k : ℕ) (v : WorldView) (stage : Replay) (n : Notes)
    : Type 0 where
  pub under_way : IsUnderWay h of v watch (dead_of stage) None n
  pub count : dead_of stage ≡ None → n.tries.count ≡ k
  pub may : MayTakeOff command h (key_at v.locks h) watch stage

-- the key that a slot shows which a claim finds behind k that found another one
abbrev pub key_found : Command → ℕ → ℕ → ℕ → Slot → Option ℕ
key_found command h own k found = (with_slot command h own (slot_bytes found) (record no_tries { count = k })).shown

-- behind a claim that found a slot
pub record FoundNoted (command : Command) (h of : ℕ) (watch : List (Option Look)) (k : ℕ) (v : WorldView) (found : Slot) (n : Notes)
    : Type 0 where
  pub under_way : IsUnderWay h of v watch None (key_found command h (key_at v.locks h) k found) n
  pub count : n.tries.count ≡ k + 1

-- behind a step
abbrev pub GoingNoted : Command → ℕ → ℕ → List (Option Look) → ℕ → WorldView → Going → Notes → Type 0
GoingNoted command h of watch k v (More stage) n = StageNoted command h of watch k v stage n
GoingNoted command h of watch k v (Found from found) n = FoundNoted command h of watch k v found n
GoingNoted command h of watch k v (Ready dead) n = IsUnderWay h of v watch (Some dead.0) None n
