use Rattle.std.specs.Prelude.{◌≡◌, ◌≢◌, ◌-◌, [], ℕ, Err, IsSome, List, None, Option, Result, filter, length, nat_eq, not}
use Rattle.std.specs.declared.io.Error.{Error}
use Rattle.shared_disk.specs.Calls.{next_count}
use Rattle.shared_disk.specs.State.{State, Told}
use Rattle.shared_disk.specs.declared.answers.DiskNo.{DiskNo}
use Rattle.shared_disk.specs.declared.answers.DiskNo.TheVariants.{Failed}
use Rattle.file_disk.specs.declared.store.TheConstants.{BLOCKS}
use Rattle.file_disk.specs.declared.stored_disk.StoredDisk.{StoredDisk}

-- a store with its registered keys, its counts, and why its last failed call failed: what the calls of a device over it see and change
pub record Keyed (S : Type 0) : Type 0 where
  pub store : S
  pub keys : List ℕ
  pub counter : ℕ
  pub faults : ℕ
  pub reason : Option Error
  pub answered : ℕ

-- the device as its calls see it
abbrev pub keyed_of : {S : Type 0} {g : _} → StoredDisk S g → Keyed S
keyed_of d = record {
  store = d.store;
  keys = d.keys.items;
  counter = d.counter;
  faults = d.faults;
  reason = d.reason;
  answered = d.calls;
}

-- a device on which nothing was done yet
abbrev pub fresh : {S : Type 0} → S → ℕ → Keyed S
fresh store counter = record { store = store; keys = []; counter = counter; faults = 0; reason = None; answered = 0 }

-- the device's state, where the first argument says what a store tells
abbrev pub state_of : {S : Type 0} → (S → Option Told) → Keyed S → State
state_of told keyed = record { blocks = BLOCKS; keys = keyed.keys; counter = keyed.counter; told = told keyed.store }

-- so many more registrations need no memory
abbrev pub room_of : {S : Type 0} → Keyed S → ℕ
room_of keyed = 16400 - length keyed.keys

-- one more call was answered
abbrev pub with_call : {S : Type 0} → Keyed S → Keyed S
with_call keyed = record keyed { answered = next_count keyed.answered }

-- one more call failed, and this is known of why
abbrev pub with_fault : {S : Type 0} → Option Error → Keyed S → Keyed S
with_fault why keyed = record keyed { faults = next_count keyed.faults; reason = why }

-- a key is registered no more
abbrev pub without_key : {S : Type 0} → ℕ → Keyed S → Keyed S
without_key target keyed = record keyed { keys = filter (λ key. not (nat_eq key target)) keyed.keys }

-- a failed call is counted, and why it failed is known; every other answer leaves the count and the reason
pub record NotesFailure {S T : Type 0} (before now : Keyed S) (result : Result T DiskNo) : Type 0 where
  pub failed : result ≡ Err Failed → now.faults ≡ next_count before.faults
  pub known : result ≡ Err Failed → IsSome now.reason
  pub quiet : result ≢ Err Failed → now.faults ≡ before.faults
  pub still : result ≢ Err Failed → now.reason ≡ before.reason
