-- A device call of a command that neither joins nor recovers leaves the keys of the device.
use Rattle.std.proofs.Common.{◌≡◌, ◌≢◌, ◌≤◌, ◌+◌, ℕ, None, Some, refl, ap, sym, subst, ◌∙◌, arith}
use Rattle.std.specs.Prelude.{Contains, List}
use Rattle.vol_base.specs.Faults.{Rose}
use Rattle.vol_base.specs.declared.command.Command.{Command}
use Rattle.vol_base.specs.declared.command.Command.TheVariants as commands
use Rattle.shared_disk.specs.Calls.{next_count}
use Rattle.shared_disk.specs.Events.{Acts, Call, Changes, Done, Event, Fences, IsShutOut, Reads, Refuses, Registers, Reply, Shows, Tests, Writes}
use Rattle.shared_disk.specs.State.{State}
use Rattle.shared_disk.specs.declared.answers.DiskNo.TheVariants as refusals
use Rattle.host_facts.specs.Views.{WorldView}
use Rattle.host_notes.specs.Allowed.{IsAllowed}
use Rattle.host_notes.specs.Owes.{plan_moment}
use Rattle.host_notes.specs.Remembered.{IsRemembered}
use Rattle.host_runs.specs.CallRights.{MayFence, MayMake}
use Rattle.host_runs.specs.Memories.{Memory, remembered, with_block, with_reply}
use Rattle.host_runs.specs.Moments.{Moment}
use Rattle.vol_base.specs.declared.block.Key.{Key}
use Rattle.vol_layout.specs.declared.geometry.Geometry.{Geometry}
use Rattle.vol_layout.specs.declared.kind.Kind.{Kind}
use Rattle.vol_layout.specs.declared.kind.Kind.TheVariants as kinds
use Rattle.vol_layout.specs.Places.{kind_at}
use Rattle.slot_lock_blocks.specs.ReaderKeys.{key_number}
use Rattle.std.specs.Prelude.{option_map}
use Rattle.host_runs.specs.Notes.{Notes}
use Rattle.host_runs.specs.lemmas.OrderlyPlaced.{some_same}
use Rattle.lock_store.specs.Views.{counter_of, host_at, key_at, keys_of}
use Rattle.plan_parts.specs.QuietCalls.{Allows}
use Rattle.plan_parts.specs.laws.TurnLaws.{own_turn}
use Rattle.host_notes.specs.laws.NotedLaws.{key_noted}
use Rattle.shared_disk.specs.Events.{Gives}
use Rattle.watch.specs.declared.watch.Look.{Look}
use Rattle.std.specs.Prelude.{Option}
use Rattle.vol_base.specs.declared.plain.PlainReply.{PlainReply}
use Rattle.solo.specs.Commands.{IsTame, MayNotJoin}
use Rattle.solo.specs.laws.LaterLaws.{made_counter}

no_fence : (command : Command) (h own target : ℕ) (watch : List (Option Look)) → IsTame command
    → MayFence command h own target watch → {A : Type 0} → A
no_fence commands.Join h own target watch tame may = absurd tame
no_fence commands.Leave h own target watch tame may = absurd tame
no_fence (commands.Recover of) h own target watch tame may = absurd tame
no_fence command h own target watch tame may = absurd may

no_join : (command : Command) → MayNotJoin command → command ≡ commands.Join → {A : Type 0} → A
no_join command joins is = absurd (subst MayNotJoin is joins)

-- it is made under the host's key
made_key : (m : Moment) (k key : ℕ) (call : Call) → MayNotJoin m.command → m.old.memory.key ≡ Some key → MayMake m k call → k ≡ key
made_key m k key (Reads place) tame own may = some_same k key (sym may.0 ∙ own)
made_key m k key (Writes place block) tame own may = some_same k key (sym may.0 ∙ own)
made_key m k key (Tests place old new) tame own may = some_same k key (sym may.0 ∙ own)
made_key m k key (Registers of) tame own may = no_join m.command tame may.0
made_key m k key (Fences target) tame own may = some_same k key (sym may.0 ∙ own)

-- and takes no key off, but where it is a fence
made_keys : (m : Moment) (k : ℕ) (call : Call) (reply : Reply) (s t : State) → MayNotJoin m.command → MayMake m k call
    → ((target : ℕ) → call ≡ Fences target → reply ≡ Done → ⊥) → Changes call reply s t → t.keys ≡ s.keys
made_keys m k call (Refuses cause) s t joins may stays changes = ap (λ (u : State). u.keys) changes
made_keys m k (Reads place) (Shows block) s t joins may stays changes = ap (λ (u : State). u.keys) changes.1
made_keys m k (Writes place block) Done s t joins may stays changes = ap (λ (u : State). u.keys) changes
made_keys m k (Tests place old new) Done s t joins may stays changes = ap (λ (u : State). u.keys) changes.1
made_keys m k (Tests place old new) (Shows block) s t joins may stays changes = ap (λ (u : State). u.keys) changes.2
made_keys m k (Registers of) reply s t joins may stays changes = no_join m.command joins may.0
made_keys m k (Fences target) Done s t joins may stays changes = absurd (stays target refl refl)
made_keys m k call reply s t joins may stays changes = absurd changes

-- nor is it refused for want of a key
not_shut : (k : ℕ) (call : Call) (s : State) → Contains s.keys k → IsShutOut k call s → ⊥
not_shut k (Reads place) s here shut = shut here
not_shut k (Writes place block) s here shut = shut here
not_shut k (Tests place old new) s here shut = shut here
not_shut k (Registers of) s here shut = shut
not_shut k (Fences target) s here shut = shut here

-- and the host's notes have the same key
block_key : (kind : Option Kind) (h own place : ℕ) (block : List ℕ) (memory : Memory)
    → (with_block kind h own place block memory).key ≡ memory.key
block_key (Some (kinds.Lock r)) h own place block memory = refl
block_key (Some (kinds.Slot of)) h own place block memory = refl
block_key _ h own place block memory = refl

reply_key : (g : Geometry) (h own : ℕ) (call : Call) (reply : Reply) (memory : Memory) → ((of : ℕ) → call ≡ Registers of → ⊥)
    → (with_reply g h own call reply memory).key ≡ memory.key
reply_key g h own (Writes place block) Done memory other = block_key (kind_at g place) h own place block memory
reply_key g h own (Tests place old new) Done memory other = block_key (kind_at g place) h own place new memory
reply_key g h own (Registers of) (Gives key) memory other = absurd (other of refl)
reply_key g h own call reply memory other = refl

no_register : (m : Moment) (k : ℕ) (call : Call) → MayNotJoin m.command → MayMake m k call → (of : ℕ) → call ≡ Registers of → ⊥
no_register m k (Registers at) tame may of is = no_join m.command tame may.0
no_register m k call tame may of is = cc

number_of : (key : Option Key) (n : ℕ) → option_map (λ (k : Key). k.0) key ≡ Some n → key_number key ≡ n
number_of None n is = cc
number_of (Some key) n is = some_same key.0 n is

-- the moment of a call in a turn of a command
abbrev pub call_moment : Command → ℕ → WorldView → WorldView → Event → Option PlainReply → Notes → Moment
call_moment command h v w e placed n = plan_moment v.locks.geometry h command v.locks.disk w.locks.disk (Some e) placed n

-- a call that a turn may make
module _ (command : Command) (h : ℕ) (v w : WorldView) (e : Event) (placed : Option PlainReply) (n : Notes) (joins : MayNotJoin command)
    (is : IsRemembered v.locks.geometry n.memory (host_at v.locks h)) (some : key_at v.locks h ≢ 0)
    (made : MayMake (call_moment command h v w e placed n) e.key e.call) (acts : Acts e v.locks.disk w.locks.disk) where
  pub event_key : e.key ≡ key_at v.locks h
  event_key =
      made_key (call_moment command h v w e placed n) e.key (key_at v.locks h) e.call joins
      (key_noted v.locks.geometry n.memory (host_at v.locks h) is some) made

  pub not_fenced : Contains (keys_of v.locks) (key_at v.locks h) → e.reply ≡ Refuses refusals.Fenced → ⊥
  not_fenced here fenced =
      not_shut e.key e.call v.locks.disk.state (subst (λ k. Contains (keys_of v.locks) k) (sym event_key) here) (acts.fenced.0 fenced)

  -- the host has the key that it had, where its notes go on with the call
  pub key_same : IsRemembered w.locks.geometry (remembered v.locks.geometry h e n.memory) (host_at w.locks h)
      → key_at w.locks h ≡ key_at v.locks h
  key_same later =
      number_of (host_at w.locks h).key (key_at v.locks h)
      (sym later.key
      ∙ reply_key v.locks.geometry h e.key e.call e.reply n.memory
      (no_register (call_moment command h v w e placed n) e.key e.call joins made)
      ∙ key_noted v.locks.geometry n.memory (host_at v.locks h) is some)

  -- and the device has all its keys, but where one was taken off
  pub keys_stay : ((target : ℕ) → e.call ≡ Fences target → e.reply ≡ Done → ⊥) → keys_of w.locks ≡ keys_of v.locks
  keys_stay stays =
      made_keys (call_moment command h v w e placed n) e.key e.call e.reply v.locks.disk.state w.locks.disk.state joins made stays acts.changes

  -- so has the host's notes' turn no fence where its command takes no key off
  pub no_fence_made : IsTame command → (target : ℕ) → e.call ≡ Fences target → e.reply ≡ Done → ⊥
  no_fence_made tame target is done =
      no_fence command h e.key target n.watch tame
      (subst (λ (c : Call). MayMake (call_moment command h v w e placed n) e.key c) is made).2

-- a call that any turn of a merge may make, whatever its notes say
module _ (h : ℕ) (v w : WorldView) (e : Event) (n : Notes) (is : IsRemembered v.locks.geometry n.memory (host_at v.locks h))
    (some : key_at v.locks h ≢ 0) (Before : Notes → Type 0) (before : Before n) (allowed : Allows commands.Merge h v e Before)
    (acts : Acts e v.locks.disk w.locks.disk) where
  pub merge_allowed : IsAllowed (call_moment commands.Merge h v w e None n) e
  merge_allowed = allowed (call_moment commands.Merge h v w e None n) (own_turn commands.Merge h v w e n is some None refl) refl before

  pub merge_own : e.key ≡ key_at v.locks h
  merge_own = event_key commands.Merge h v w e None n tt is some merge_allowed.made acts

  pub merge_keys : keys_of w.locks ≡ keys_of v.locks
  merge_keys =
      keys_stay commands.Merge h v w e None n tt is some merge_allowed.made acts
      (no_fence_made commands.Merge h v w e None n tt is some merge_allowed.made acts tt)

  -- nor does it ask for one
  pub merge_counter : counter_of w.locks ≡ counter_of v.locks
  merge_counter = made_counter (call_moment commands.Merge h v w e None n) e v.locks.disk w.locks.disk tt merge_allowed.made acts

  pub merge_key : IsRemembered w.locks.geometry (remembered v.locks.geometry h e n.memory) (host_at w.locks h)
      → key_at w.locks h ≡ key_at v.locks h
  merge_key = key_same commands.Merge h v w e None n tt is some merge_allowed.made acts

  pub merge_open : Contains (keys_of v.locks) (key_at v.locks h) → e.reply ≡ Refuses refusals.Fenced → ⊥
  merge_open = not_fenced commands.Merge h v w e None n tt is some merge_allowed.made acts

-- a count rises by one at most
pub count_one : (n m : ℕ) → m ≡ next_count n → m ≤ n + 1
count_one n m is = grind (arith, is)

-- faults that rose behind others rose
pub risen : (a b c : ℕ) → a ≤ b → Rose b c → Rose a c
risen a b c later rose = grind (arith, later, rose)
