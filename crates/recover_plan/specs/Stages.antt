-- What stands before each step of the recovery of a slot, and how many steps are left.
use Rattle.std.specs.Prelude.{◌≡◌, ◌≢◌, ◌+◌, ◌*◌, ◌-◌, ◌<◌, ℕ, None, Option, Some, length, if◌then◌else◌, nat_lt}
use Rattle.vol_base.specs.declared.block.Key.{Key}
use Rattle.journal_block.specs.JournalRecord.{JournalRecord}
use Rattle.slot_lock_blocks.specs.declared.slot.Slot.TheVariants as slots
use Rattle.vol_layout.specs.declared.geometry.Geometry.{Geometry}
use Rattle.slot_lock_blocks.specs.declared.slot.Slot.{Slot}
use Rattle.slot_lock_blocks.specs.Slots.{IsSlot, slot_key}
use Rattle.lock_store.specs.Memories.{claim_of}
use Rattle.lock_store.specs.SlotTries.{IsOfHost, MayShow, slot_by}
use Rattle.lock_store.specs.declared.purpose.SlotUse.TheVariants.{Take}
use Rattle.lock_store.specs.Views.{host_at, key_at}
use Rattle.host_facts.specs.Facts.{locks_of}
use Rattle.host_facts.specs.Facts.Fact.{Given, Off}
use Rattle.host_facts.specs.Knows.{Knows}
use Rattle.host_facts.specs.Views.{WorldView}
use Rattle.recover_plan.specs.Replaying.{HasClaim, IsAllReplayed, IsDueAt, IsRecoverer, IsReplaying, IsSwept}
use Rattle.recover_plan.specs.declared.replay.Going.{Going}
use Rattle.recover_plan.specs.declared.replay.Going.TheVariants.{Found, More, Ready}
use Rattle.recover_plan.specs.declared.replay.Replay.{Replay}
use Rattle.recover_plan.specs.declared.replay.Replay.TheVariants.{Claim, Clear, Fence, FenceBy, Journal, Read, Sweep, Write}

-- a slot that is not claimed was seen: it is spelled and not free, shows no key of the host itself, and the device gave its keys
pub record IsSeen (v : WorldView) (h of : ℕ) (slot : Slot) : Type 0 where
  pub base : IsRecoverer v h of
  pub unclaimed : claim_of (host_at v.locks h) of ≡ 0
  pub spelled : IsSlot slot
  pub some : slot_key slot ≢ 0
  pub other : slot_key slot ≢ key_at v.locks h
  pub shown : Knows v h (Given (slot_key slot))
  pub by : Knows v h (Given (slot_by slot))

-- the key that the slot shows is off, and so is its `by` where it has one
pub record AreOff (v : WorldView) (h : ℕ) (slot : Slot) : Type 0 where
  pub shown : Knows v h (Off (slot_key slot))
  pub by : slot_by slot ≢ 0 → Knows v h (Off (slot_by slot))

-- before each step
abbrev pub Stands : WorldView → ℕ → ℕ → Replay → Type 0
Stands v h of (Fence slot) = IsSeen v h of slot
Stands v h of (FenceBy slot) = IsSeen v h of slot × (slot_by slot ≢ 0) × Knows v h (Off (slot_key slot))
Stands v h of (Claim slot) = IsSeen v h of slot × AreOff v h slot
Stands v h of (Journal dead) = HasClaim v h of dead.0
Stands v h of (Read dead entry k) = IsReplaying v h of dead.0 entry.edits k
Stands v h of (Write dead entry k kept) = IsReplaying v h of dead.0 entry.edits k × IsDueAt v h of entry.edits k kept
Stands v h of (Clear dead) = IsAllReplayed v h of dead.0
Stands v h of (Sweep dead k) = IsSwept v h of dead.0 k × (k < locks_of v.locks.geometry)

-- a claim that was made from the first slot found the second one, which may stand there; the key of the first is off
pub record HasFound (v : WorldView) (h of : ℕ) (from found : Slot) : Type 0 where
  pub base : IsRecoverer v h of
  pub unclaimed : claim_of (host_at v.locks h) of ≡ 0
  pub spelled : IsSlot found
  pub of_host : IsOfHost of found
  pub may : MayShow Take of (host_at v.locks h) found
  pub shown : Knows v h (Given (slot_key found))
  pub by : Knows v h (Given (slot_by found))
  pub source : IsSlot from
  pub some : slot_key from ≢ 0
  pub other : slot_key from ≢ key_at v.locks h
  pub off : Knows v h (Off (slot_key from))

-- what stands behind a step
abbrev pub StandsBehind : WorldView → ℕ → ℕ → Going → Type 0
StandsBehind v h of (More stage) = Stands v h of stage
StandsBehind v h of (Found from found) = HasFound v h of from found
StandsBehind v h of (Ready dead) = IsSwept v h of dead.0 (locks_of v.locks.geometry)

-- at most so many steps are left from a stage on
abbrev pub steps_left : Geometry → Replay → ℕ
steps_left g (Fence slot) = locks_of g + 21
steps_left g (FenceBy slot) = locks_of g + 20
steps_left g (Claim slot) = locks_of g + 19
steps_left g (Journal dead) = locks_of g + 18
steps_left g (Read dead entry k) = locks_of g + 1 + 2 * (length entry.edits - k)
steps_left g (Write dead entry k kept) = locks_of g + 2 * (length entry.edits - k)
steps_left g (Clear dead) = locks_of g + 1
steps_left g (Sweep dead k) = locks_of g - k

-- there are fewer behind a step
abbrev pub AreFewer : Geometry → Replay → Going → Type 0
AreFewer g stage (More next) = steps_left g next < steps_left g stage
AreFewer g stage going = Unit {0}

-- what comes next: the `by` of a recovering slot is taken off, and any other slot is claimed
abbrev pub behind_fence : Slot → Replay
behind_fence slots.Free = Claim slots.Free
behind_fence (slots.Live key beat) = Claim (slots.Live key beat)
behind_fence (slots.Recovering key by) = FenceBy (slots.Recovering key by)

-- a record is made again, and where there is none the locks are freed
abbrev pub behind_journal : Key → Option JournalRecord → Replay
behind_journal dead None = Sweep dead 0
behind_journal dead (Some entry) = Read dead entry 0

-- the table of the next edit is read, and where there is none the journal is cleared
abbrev pub behind_write : Key → JournalRecord → ℕ → Replay
behind_write dead entry next = if nat_lt next (length entry.edits) then Read dead entry next else Clear dead

-- the next lock is freed, if there is one
abbrev pub behind_sweep : Geometry → Key → ℕ → Going
behind_sweep g dead k = if nat_lt (k + 1) (locks_of g) then More (Sweep dead (k + 1)) else Ready dead
