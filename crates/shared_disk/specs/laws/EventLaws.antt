-- What a call of a device asked, answered and left, as one event: the clauses of the call give all that `Acts` says.
use Rattle.std.proofs.Common.{◌≡◌, ◌≢◌, ◌↔◌, ◌+◌, ◌<◌, ◌≤◌, ℕ, Err, List, Ok, Result, arith}
use Rattle.std.specs.Prelude.{Contains, IfOk, OnErr, OnOk}
use Rattle.vol_base.specs.Faults.{Rose}
use Rattle.vol_base.specs.declared.block.Block.{Block}
use Rattle.vol_base.specs.declared.block.Key.{Key}
use Rattle.shared_disk.specs.Calls.{Swaps, after_fence, after_register, after_write, last_counter, next_count, next_key}
use Rattle.shared_disk.specs.Events.{Acts, Changes, Event, Fences, IsAdmitted, IsShutOut, IsSpent, MayAsk, Reads, Refuses}
use Rattle.shared_disk.specs.Events.{Registers, Reply, Tests, Writes, cost, done_reply, event, key_reply, read_reply, tested_reply}
use Rattle.shared_disk.specs.Seen.{DiskSeen}
use Rattle.shared_disk.specs.State.{Stands, State}
use Rattle.shared_disk.specs.declared.answers.DiskNo.{DiskNo}
use Rattle.shared_disk.specs.declared.answers.DiskNo.TheVariants.{Failed, Fenced, NoKeys, NoMemory}
use Rattle.shared_disk.specs.declared.answers.Tested.{Tested}
use Rattle.shared_disk.specs.declared.answers.Tested.TheVariants as tested

-- a reply refuses for exactly the cause that its answer has
abbrev RefusesAs : {T : Type 0} → Reply → Result T DiskNo → Type 0
RefusesAs reply result = (cause : DiskNo) → (reply ≡ Refuses cause) ↔ (result ≡ Err cause)

read_refuses : (result : Result Block DiskNo) → RefusesAs (read_reply result) result
read_refuses (Ok block) cause = (λ e. absurd cc, λ e. absurd cc)
read_refuses (Err refusal) cause = (λ e. cc, λ e. cc)

done_refuses : (result : Result Unit DiskNo) → RefusesAs (done_reply result) result
done_refuses (Ok done) cause = (λ e. absurd cc, λ e. absurd cc)
done_refuses (Err refusal) cause = (λ e. cc, λ e. cc)

tested_refuses : (result : Result Tested DiskNo) → RefusesAs (tested_reply result) result
tested_refuses (Ok tested.Swapped) cause = (λ e. absurd cc, λ e. absurd cc)
tested_refuses (Ok (tested.Found block)) cause = (λ e. absurd cc, λ e. absurd cc)
tested_refuses (Err refusal) cause = (λ e. cc, λ e. cc)

key_refuses : (result : Result Key DiskNo) → RefusesAs (key_reply result) result
key_refuses (Ok key) cause = (λ e. absurd cc, λ e. absurd cc)
key_refuses (Err refusal) cause = (λ e. cc, λ e. cc)

-- the clauses that every call has, told of its answer
acts : {T : Type 0} (e : Event) (result : Result T DiskNo) (old new : DiskSeen) → RefusesAs e.reply result
    → MayAsk e.call old.state
    → Changes e.call e.reply old.state new.state × IsAdmitted e.key e.call e.reply old.state
    → (result ≡ Err Fenced) ↔ IsShutOut e.key e.call old.state
    → (result ≡ Err NoKeys) ↔ IsSpent e.call old.state
    → (result ≡ Err Failed → Rose old.faults new.faults)
    → (result ≡ Err NoMemory → (old.room ≡ 0) × (0 < cost e.call))
    → new.calls ≡ next_count old.calls
    → old.faults ≤ new.faults
    → old.room ≤ new.room + cost e.call
    → Acts e old new
acts e result old new refuses asked done fenced no_keys failed memory counted later spends = record {
  asked = asked;
  changes = done.0;
  fenced = (λ r. fenced.0 ((refuses Fenced).0 r), λ out. (refuses Fenced).1 (fenced.1 out));
  admitted = done.1;
  no_keys = (λ r. no_keys.0 ((refuses NoKeys).0 r), λ spent. (refuses NoKeys).1 (no_keys.1 spent));
  failed = λ r. failed ((refuses Failed).0 r);
  later = later;
  memory = λ r. memory ((refuses NoMemory).0 r);
  spends = spends;
  counted = counted;
}

read_done : (key place : ℕ) (result : Result Block DiskNo) (s t : State) → IfOk result (λ block. Stands s place block.0) → t ≡ s
    → OnOk result (Contains s.keys key)
    → Changes (Reads place) (read_reply result) s t × IsAdmitted key (Reads place) (read_reply result) s
read_done key place (Ok block) s t stands same registered = ((stands, same), registered)
read_done key place (Err cause) s t stands same registered = (same, tt)

-- a read
pub read_acts : (key place : ℕ) (result : Result Block DiskNo) (old new : DiskSeen) → place < old.state.blocks
    → IfOk result (λ block. Stands old.state place block.0)
    → new.state ≡ old.state
    → (result ≡ Err Fenced) ↔ (Contains old.state.keys key → ⊥)
    → OnOk result (Contains old.state.keys key)
    → (result ≡ Err Failed → Rose old.faults new.faults)
    → result ≢ Err NoKeys
    → result ≢ Err NoMemory
    → new.calls ≡ next_count old.calls
    → old.faults ≤ new.faults
    → old.room ≤ new.room
    → Acts (event key (Reads place) (read_reply result)) old new
read_acts key place result old new asked block same fenced registered failed no_keys memory counted later spends =
    acts (event key (Reads place) (read_reply result)) result old new (read_refuses result) asked
    (read_done key place result old.state new.state block same registered) fenced (no_keys, λ spent. absurd spent) failed
    (λ r. absurd (memory r)) counted later (omega (arith, spends))

write_done : (key place : ℕ) (block : List ℕ) (result : Result Unit DiskNo) (s t : State)
    → OnOk result (t ≡ after_write place block s) → OnErr result (t ≡ s) → OnOk result (Contains s.keys key)
    → Changes (Writes place block) (done_reply result) s t × IsAdmitted key (Writes place block) (done_reply result) s
write_done key place block (Ok done) s t written same registered = (written, registered)
write_done key place block (Err cause) s t written same registered = (same, tt)

-- a write
pub write_acts : (key place : ℕ) (block : List ℕ) (result : Result Unit DiskNo) (old new : DiskSeen) → place < old.state.blocks
    → OnOk result (new.state ≡ after_write place block old.state)
    → OnErr result (new.state ≡ old.state)
    → (result ≡ Err Fenced) ↔ (Contains old.state.keys key → ⊥)
    → OnOk result (Contains old.state.keys key)
    → (result ≡ Err Failed → Rose old.faults new.faults)
    → result ≢ Err NoKeys
    → (result ≡ Err NoMemory → old.room ≡ 0)
    → new.calls ≡ next_count old.calls
    → old.faults ≤ new.faults
    → old.room ≤ new.room + 1
    → Acts (event key (Writes place block) (done_reply result)) old new
write_acts key place block result old new asked done same fenced registered failed no_keys memory counted later spends =
    acts (event key (Writes place block) (done_reply result)) result old new (done_refuses result) asked
    (write_done key place block result old.state new.state done same registered) fenced (no_keys, λ spent. absurd spent) failed
    (λ r. (memory r, omega arith)) counted later spends

test_done : (key place : ℕ) (was next : List ℕ) (result : Result Tested DiskNo) (s t : State)
    → IfOk result (Swaps place was next s t) → OnErr result (t ≡ s) → OnOk result (Contains s.keys key)
    → Changes (Tests place was next) (tested_reply result) s t × IsAdmitted key (Tests place was next) (tested_reply result) s
test_done key place was next (Ok tested.Swapped) s t swaps same registered = (swaps, registered)
test_done key place was next (Ok (tested.Found block)) s t swaps same registered = (swaps, registered)
test_done key place was next (Err cause) s t swaps same registered = (same, tt)

-- a test-and-set
pub test_acts : (key place : ℕ) (was next : List ℕ) (result : Result Tested DiskNo) (old new : DiskSeen) → place < old.state.blocks
    → IfOk result (Swaps place was next old.state new.state)
    → OnErr result (new.state ≡ old.state)
    → (result ≡ Err Fenced) ↔ (Contains old.state.keys key → ⊥)
    → OnOk result (Contains old.state.keys key)
    → (result ≡ Err Failed → Rose old.faults new.faults)
    → result ≢ Err NoKeys
    → (result ≡ Err NoMemory → old.room ≡ 0)
    → new.calls ≡ next_count old.calls
    → old.faults ≤ new.faults
    → old.room ≤ new.room + 1
    → Acts (event key (Tests place was next) (tested_reply result)) old new
test_acts key place was next result old new asked done same fenced registered failed no_keys memory counted later spends =
    acts (event key (Tests place was next) (tested_reply result)) result old new (tested_refuses result) asked
    (test_done key place was next result old.state new.state done same registered) fenced (no_keys, λ spent. absurd spent) failed
    (λ r. (memory r, omega arith)) counted later spends

register_done : (host : ℕ) (result : Result Key DiskNo) (s t : State) → IfOk result (λ key. key.0 ≡ next_key host s)
    → OnOk result (t ≡ after_register host s) → OnErr result (t ≡ s)
    → Changes (Registers host) (key_reply result) s t × IsAdmitted 0 (Registers host) (key_reply result) s
register_done host (Ok key) s t gives done same = ((gives, done), tt)
register_done host (Err cause) s t gives done same = (same, tt)

-- a registration, which is made under no key
pub register_acts : (host : ℕ) (result : Result Key DiskNo) (old new : DiskSeen) → host < 16
    → IfOk result (λ key. key.0 ≡ next_key host old.state)
    → OnOk result (new.state ≡ after_register host old.state)
    → OnErr result (new.state ≡ old.state)
    → (result ≡ Err NoKeys) ↔ (old.state.counter ≡ last_counter)
    → (result ≡ Err Failed → Rose old.faults new.faults)
    → result ≢ Err Fenced
    → (result ≡ Err NoMemory → old.room ≡ 0)
    → new.calls ≡ next_count old.calls
    → old.faults ≤ new.faults
    → old.room ≤ new.room + 1
    → Acts (event 0 (Registers host) (key_reply result)) old new
register_acts host result old new asked gives done same no_keys failed fenced memory counted later spends =
    acts (event 0 (Registers host) (key_reply result)) result old new (key_refuses result) asked
    (register_done host result old.state new.state gives done same) (fenced, λ out. absurd out) no_keys failed
    (λ r. (memory r, omega arith)) counted later spends

fence_done : (key target : ℕ) (result : Result Unit DiskNo) (s t : State) → OnOk result (t ≡ after_fence target s) → OnErr result (t ≡ s)
    → OnOk result (Contains s.keys key)
    → Changes (Fences target) (done_reply result) s t × IsAdmitted key (Fences target) (done_reply result) s
fence_done key target (Ok done) s t fenced same registered = (fenced, registered)
fence_done key target (Err cause) s t fenced same registered = (same, tt)

-- a fence
pub fence_acts : (key target : ℕ) (result : Result Unit DiskNo) (old new : DiskSeen)
    → OnOk result (new.state ≡ after_fence target old.state)
    → OnErr result (new.state ≡ old.state)
    → (result ≡ Err Fenced) ↔ (Contains old.state.keys key → ⊥)
    → OnOk result (Contains old.state.keys key)
    → (result ≡ Err Failed → Rose old.faults new.faults)
    → result ≢ Err NoKeys
    → result ≢ Err NoMemory
    → new.calls ≡ next_count old.calls
    → old.faults ≤ new.faults
    → old.room ≤ new.room
    → Acts (event key (Fences target) (done_reply result)) old new
fence_acts key target result old new done same fenced registered failed no_keys memory counted later spends =
    acts (event key (Fences target) (done_reply result)) result old new (done_refuses result) tt
    (fence_done key target result old.state new.state done same registered) fenced (no_keys, λ spent. absurd spent) failed
    (λ r. absurd (memory r)) counted later (omega (arith, spends))
