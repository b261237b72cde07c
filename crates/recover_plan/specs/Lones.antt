-- What stands between two steps of the plan of a lone host, and how many steps are left.
use Rattle.std.specs.Prelude.{◌≡◌, ◌≢◌, ◌+◌, ◌*◌, ◌<◌, ℕ, Bool, true, false, None}
use Rattle.vol_base.specs.declared.block.Key.{Key}
use Rattle.vol_layout.specs.declared.geometry.Geometry.{Geometry}
use Rattle.slot_lock_blocks.specs.declared.slot.Slot.{Slot}
use Rattle.slot_lock_blocks.specs.declared.slot.Slot.TheVariants as slots
use Rattle.lock_store.specs.Memories.{dropped}
use Rattle.lock_store.specs.Views.{host_at, told_of}
use Rattle.host_facts.specs.Facts.{locks_of}
use Rattle.host_facts.specs.Views.{WorldView}
use Rattle.plan_parts.specs.Steps.{IsReady}
use Rattle.recover_plan.specs.Plans.{IsEntering}
use Rattle.recover_plan.specs.Replaying.{IsRecoverer, IsSwept}
use Rattle.recover_plan.specs.Replays.{SeesSlot}
use Rattle.recover_plan.specs.Stages.{Stands, steps_left}
use Rattle.recover_plan.specs.declared.lone.Came.{Came}
use Rattle.recover_plan.specs.declared.lone.Came.TheVariants.{End, More}
use Rattle.recover_plan.specs.declared.lone.Lone.{Lone}
use Rattle.recover_plan.specs.declared.lone.Lone.TheVariants as lones
use Rattle.recover_plan.specs.declared.lone.LoneEnd.TheVariants as ends
use Rattle.recover_plan.specs.declared.replay.Replay.{Replay}
use Rattle.recover_plan.specs.declared.replay.Replay.TheVariants.{Claim, Fence}

-- a host that recovers the slot: its own one, to join, or that of another host, as a ready host does
pub record IsLone (v : WorldView) (h of : ℕ) : Type 0 where
  pub base : IsRecoverer v h of
  pub ready : of ≢ h → IsReady v h

-- a recovery under way; till the slot is claimed, the one that was seen stands there, since no other host makes a call
pub record IsOnWay (v : WorldView) (h of : ℕ) (stage : Replay) : Type 0 where
  pub lone : IsLone v h of
  pub stands : Stands v h of stage
  pub sees : SeesSlot v h of stage

-- before each step; a claim finds another slot than the one that it was made from only where the device tells nothing
abbrev pub LoneAt : WorldView → ℕ → ℕ → Lone → Type 0
LoneAt v h of lones.Register = (of ≡ h) × (h < v.locks.geometry.hosts) × (host_at v.locks h ≡ dropped)
LoneAt v h of lones.Enter = (of ≡ h) × IsEntering v h
LoneAt v h of lones.EnterAgain = (of ≡ h) × IsEntering v h × (told_of v.locks ≡ None)
LoneAt v h of lones.Find = (of ≢ h) × (h < v.locks.geometry.hosts) × (of < v.locks.geometry.hosts) × IsReady v h
LoneAt v h of (lones.First stage) = IsOnWay v h of stage
LoneAt v h of (lones.Again stage) = IsOnWay v h of stage
LoneAt v h of (lones.Last dead) = IsLone v h of × IsSwept v h of dead.0 (locks_of v.locks.geometry)
LoneAt v h of lones.Ended = ⊥

-- at most so many steps are left
abbrev pub lone_left : Geometry → Lone → ℕ
lone_left g lones.Register = 2 * locks_of g + 43
lone_left g lones.Enter = 2 * locks_of g + 42
lone_left g lones.EnterAgain = 1
lone_left g lones.Find = 2 * locks_of g + 42
lone_left g (lones.First stage) = steps_left g stage + locks_of g + 20
lone_left g (lones.Again stage) = steps_left g stage + 1
lone_left g (lones.Last dead) = 1
lone_left g lones.Ended = 0

-- and so many keys are asked for yet
abbrev pub keys_left : Lone → ℕ
keys_left lones.Register = 1
keys_left later = 0

-- the own slot is entered from a free one, and the recovery goes on, at first or behind a claim that found another slot
abbrev pub entry_by : Bool → Lone
entry_by false = lones.Enter
entry_by true = lones.EnterAgain

abbrev pub on_by : Bool → Replay → Lone
on_by false stage = lones.First stage
on_by true stage = lones.Again stage

-- the key of the host that has a slot
abbrev pub has_key : Slot → Key
has_key slots.Free = record { 0 = 0 }
has_key (slots.Live key beat) = key
has_key (slots.Recovering key by) = by

-- what comes of a slot that a try of the own free one found
abbrev pub found_own : Bool → Slot → Came
found_own false slot = More (lones.First (Fence slot))
found_own true slot = End (ends.Busy (has_key slot))

-- of the slot of another host that was read
abbrev pub found_other : Slot → Came
found_other slots.Free = End ends.Free
found_other (slots.Live key beat) = More (lones.First (Fence (slots.Live key beat)))
found_other (slots.Recovering key by) = More (lones.First (Fence (slots.Recovering key by)))

-- and of one that a claim found: a free one is entered if it is the own one; a live one of another host is claimed once more, where it
-- shows the key that the claim was made from
abbrev pub found_by : Bool → Bool → Bool → Slot → Came
found_by true again same slots.Free = More lones.EnterAgain
found_by false again same slots.Free = End ends.Free
found_by false false true (slots.Live key beat) = More (lones.Again (Claim (slots.Live key beat)))
found_by own again same slot = End (ends.Busy (has_key slot))
