-- One call of a device as data: what is asked under which key, what is answered, and what the device becomes by it.
use Rattle.std.specs.Prelude.{◌≡◌, ◌≢◌, ◌↔◌, ◌+◌, ◌<◌, ◌≤◌, ℕ, Contains, Err, List, Ok, Result}
use Rattle.vol_base.specs.Faults.{Rose}
use Rattle.vol_base.specs.declared.block.Block.{Block}
use Rattle.vol_base.specs.declared.block.Key.{Key}
use Rattle.shared_disk.specs.Calls.{after_fence, after_register, after_write, last_counter, next_count, next_key}
use Rattle.shared_disk.specs.Seen.{DiskSeen}
use Rattle.shared_disk.specs.State.{Stands, State}
use Rattle.shared_disk.specs.declared.answers.DiskNo.{DiskNo}
use Rattle.shared_disk.specs.declared.answers.DiskNo.TheVariants.{Failed, Fenced, NoKeys, NoMemory}
use Rattle.shared_disk.specs.declared.answers.Tested.{Tested}
use Rattle.shared_disk.specs.declared.answers.Tested.TheVariants as tested

-- what is asked: the block at a place; a block written there; a test-and-set there, from a block to another one; a key for
-- a host; that a key is taken off
pub data Call : Type 0 where
  Reads : ℕ → Call
  Writes : ℕ → List ℕ → Call
  Tests : ℕ → List ℕ → List ℕ → Call
  Registers : ℕ → Call
  Fences : ℕ → Call

-- what is answered: a refusal; that it is done; the block that stands there; the new key
pub data Reply : Type 0 where
  Refuses : DiskNo → Reply
  Done : Reply
  Shows : List ℕ → Reply
  Gives : ℕ → Reply

-- one call with its answer. A registration is made under no key, so its key is not looked at
pub record Event : Type 0 where
  pub key : ℕ
  pub call : Call
  pub reply : Reply

abbrev pub event : ℕ → Call → Reply → Event
event key call reply = record { key = key; call = call; reply = reply }

-- a call may be made: its place is one of the device, and a host is below 16
abbrev pub MayAsk : Call → State → Type 0
MayAsk (Reads place) s = place < s.blocks
MayAsk (Writes place block) s = place < s.blocks
MayAsk (Tests place old new) s = place < s.blocks
MayAsk (Registers host) s = host < 16
MayAsk (Fences target) s = Unit {0}

-- the device before and after a call with this answer
abbrev pub Changes : Call → Reply → State → State → Type 0
Changes call (Refuses cause) s t = t ≡ s
Changes (Reads place) (Shows block) s t = Stands s place block × (t ≡ s)
Changes (Writes place block) Done s t = t ≡ after_write place block s
Changes (Tests place old new) Done s t = Stands s place old × (t ≡ after_write place new s)
Changes (Tests place old new) (Shows block) s t = Stands s place block × (block ≢ old) × (t ≡ s)
Changes (Registers host) (Gives key) s t = (key ≡ next_key host s) × (t ≡ after_register host s)
Changes (Fences target) Done s t = t ≡ after_fence target s
Changes call reply s t = ⊥

-- a call under a key that is not registered
abbrev pub IsShutOut : ℕ → Call → State → Type 0
IsShutOut key (Registers host) s = ⊥
IsShutOut key call s = Contains s.keys key → ⊥

-- a call under a key, which was not refused: the key is registered
abbrev pub IsAdmitted : ℕ → Call → Reply → State → Type 0
IsAdmitted key call (Refuses cause) s = Unit {0}
IsAdmitted key (Registers host) reply s = Unit {0}
IsAdmitted key call reply s = Contains s.keys key

-- a registration where no key is left
abbrev pub IsSpent : Call → State → Type 0
IsSpent (Registers host) s = s.counter ≡ last_counter
IsSpent call s = ⊥

-- how much of its room a call may take
abbrev pub cost : Call → ℕ
cost (Reads place) = 0
cost (Writes place block) = 1
cost (Tests place old new) = 1
cost (Registers host) = 1
cost (Fences target) = 0

-- what a call does to its device: exactly what the clauses of `Device` say of it
pub record Acts (e : Event) (old new : DiskSeen) : Type 0 where
  pub asked : MayAsk e.call old.state
  pub changes : Changes e.call e.reply old.state new.state
  pub fenced : (e.reply ≡ Refuses Fenced) ↔ IsShutOut e.key e.call old.state
  pub admitted : IsAdmitted e.key e.call e.reply old.state
  pub no_keys : (e.reply ≡ Refuses NoKeys) ↔ IsSpent e.call old.state
  pub failed : e.reply ≡ Refuses Failed → Rose old.faults new.faults
  pub later : old.faults ≤ new.faults
  pub memory : e.reply ≡ Refuses NoMemory → (old.room ≡ 0) × (0 < cost e.call)
  pub spends : old.room ≤ new.room + cost e.call
  pub counted : new.calls ≡ next_count old.calls

-- each call's answer as a reply
abbrev pub read_reply : Result Block DiskNo → Reply
read_reply (Ok block) = Shows block.0
read_reply (Err cause) = Refuses cause

abbrev pub done_reply : Result Unit DiskNo → Reply
done_reply (Ok done) = Done
done_reply (Err cause) = Refuses cause

abbrev pub tested_reply : Result Tested DiskNo → Reply
tested_reply (Ok tested.Swapped) = Done
tested_reply (Ok (tested.Found block)) = Shows block.0
tested_reply (Err cause) = Refuses cause

abbrev pub key_reply : Result Key DiskNo → Reply
key_reply (Ok key) = Gives key.0
key_reply (Err cause) = Refuses cause
