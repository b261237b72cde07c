-- What a call that read, showed, claimed or entered a slot, or took a key off, leaves to the host that makes it.
use Rattle.std.specs.Prelude.{◌≡◌, ◌≢◌, ℕ, Contains, [], Some, true}
use Rattle.slot_lock_blocks.specs.declared.slot.Slot.{Slot}
use Rattle.slot_lock_blocks.specs.Slots.{slot_key}
use Rattle.lock_store.specs.Memories.{claim_of, entered, with_beat, with_claim}
use Rattle.lock_store.specs.SlotTries.{slot_by}
use Rattle.lock_store.specs.Views.{host_at, key_at, keys_of, told_of}
use Rattle.disk_locks.specs.Calls.{next_beat}
use Rattle.host_facts.specs.Facts.{Fact}
use Rattle.host_facts.specs.Facts.Fact.{DeadRecord, Given, Off, RecordIs, Swept}
use Rattle.host_facts.specs.Knows.{Knows}
use Rattle.host_facts.specs.Looks.{Looks}
use Rattle.host_facts.specs.Passes.{Passes}
use Rattle.host_facts.specs.Relocks.{claim_guard_of}
use Rattle.host_facts.specs.Views.{WorldView}

-- a slot was seen: nothing changed, and the device gave its keys
pub record HasSeen (h : ℕ) (slot : Slot) (v w : WorldView) : Type 0 where
  pub looks : Looks h v w
  pub shown : Knows w h (Given (slot_key slot))
  pub by : Knows w h (Given (slot_by slot))

-- the own slot shows another beat: memory has it, and every fact stays
pub record HasBeaten (h : ℕ) (v w : WorldView) : Type 0 where
  pub memory : host_at w.locks h ≡ with_beat (next_beat (host_at v.locks h).beat) (host_at v.locks h)
  pub registered : Contains (keys_of v.locks) (key_at v.locks h)
  pub keys : keys_of w.locks ≡ keys_of v.locks
  pub passes : Passes h v w
  pub facts : (a : Fact) → Knows v h a → Knows w h a

-- a key is off: memory is as before, every fact stays, and of a key that the device gave it is known
pub record HasFenced (h target : ℕ) (v w : WorldView) : Type 0 where
  pub memory : host_at w.locks h ≡ host_at v.locks h
  pub registered : Contains (keys_of v.locks) (key_at v.locks h)
  pub told : told_of w.locks ≡ told_of v.locks
  pub passes : Passes h v w
  pub facts : (a : Fact) → Knows v h a → Knows w h a
  pub off : target ≢ 0 → Knows v h (Given target) → Knows w h (Off target)

-- a slot is claimed, which shows this dead key: every fact stays, and the sweep of its locks may begin
pub record HasClaimed (h y dead : ℕ) (v w : WorldView) : Type 0 where
  pub memory : host_at w.locks h ≡ with_claim y dead (host_at v.locks h)
  pub claim : claim_of (host_at w.locks h) y ≡ dead
  pub registered : Contains (keys_of v.locks) (key_at v.locks h)
  pub keys : keys_of w.locks ≡ keys_of v.locks
  pub passes : Passes h v w
  pub facts : (a : Fact) → Knows v h a → Knows w h a
  pub sweeps : Knows w h (Swept y 0)

-- the own slot is live: every fact stays that a claim of it does not guard; and the own journal is empty where the slot was free, or
-- the host knew it of the slot that it had claimed
pub record HasJoined (h : ℕ) (from : Slot) (v w : WorldView) : Type 0 where
  pub memory : host_at w.locks h ≡ entered h (host_at v.locks h)
  pub joined : (host_at w.locks h).joined ≡ true
  pub registered : Contains (keys_of v.locks) (key_at v.locks h)
  pub keys : keys_of w.locks ≡ keys_of v.locks
  pub passes : Passes h v w
  pub facts : (a : Fact) → claim_guard_of a ≢ Some h → Knows v h a → Knows w h a
  pub empty : (slot_key from ≢ 0 → Knows v h (DeadRecord h [])) → Knows w h (RecordIs [])
