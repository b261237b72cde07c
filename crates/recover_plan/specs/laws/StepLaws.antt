-- A call of a command on slots is a turn of it; and what a host that was ready is behind a call.
use Rattle.std.proofs.Common.{◌≡◌, ◌≢◌, ◌⊎◌, ◌∷◌, ℕ, List, [], None, Option, Some, true, false, refl, ap, sym, subst, ◌∙◌, inl, inr}
use Rattle.std.proofs.lemmas.Bool.{false_from_ne_true}
use Rattle.std.specs.Option.{option_or}
use Rattle.vol_base.specs.declared.block.Block.{Block}
use Rattle.vol_base.specs.declared.block.Digest.{Digest}
use Rattle.vol_base.specs.declared.command.Command.{Command}
use Rattle.vol_base.specs.declared.command.Command.TheVariants as commands
use Rattle.vol_base.specs.declared.plain.PlainReply.{PlainReply}
use Rattle.vol_base.specs.PlainCalls.{plain_call_of}
use Rattle.vol_layout.specs.declared.geometry.Geometry.{Geometry}
use Rattle.vol_layout.specs.declared.kind.Resource.{Resource}
use Rattle.vol_layout.specs.Ranges.{HasResource}
use Rattle.journal_block.specs.JournalRecord.{JournalRecord}
use Rattle.shared_disk.specs.Events.{Acts, Call, Changes, Done, Event, Reply, Refuses, Shows, event}
use Rattle.shared_disk.specs.Seen.{DiskSeen}
use Rattle.shared_disk.specs.declared.answers.DiskNo.TheVariants as refusals
use Rattle.image_view.specs.Valid.{IsValid}
use Rattle.lock_store.specs.declared.answers.StepNo.{StepNo}
use Rattle.lock_store.specs.declared.host.HostState.{HostState}
use Rattle.lock_store.specs.Events.{Did}
use Rattle.lock_store.specs.Memories.{holds}
use Rattle.lock_store.specs.Views.{counter_of, host_at, key_at, told_of, keys_of}
use Rattle.disk_locks.specs.Consistent.{Consistent}
use Rattle.host_facts.specs.Facts.Fact.{RecordIs}
use Rattle.host_facts.specs.Knows.{Knows}
use Rattle.host_facts.specs.Views.{WorldView, with_locks}
use Rattle.host_facts.specs.Wrote.{FilesStay, HasValidImage}
use Rattle.host_facts.specs.laws.FactLaws.{joined_key}
use Rattle.host_runs.specs.Awaited.{wanted}
use Rattle.host_runs.specs.DeviceCalls.{OnImage}
use Rattle.host_runs.specs.Memories.{AreFileLocks, Memory}
use Rattle.host_runs.specs.Moments.{Moment}
use Rattle.host_runs.specs.Notes.{NotedCall, Notes, at_rest, with_call}
use Rattle.host_notes.specs.Allowed.{IsAllowed, IsTurnOf}
use Rattle.host_notes.specs.FileTurns.{going_on}
use Rattle.host_notes.specs.Owes.{joined_in, plan_moment}
use Rattle.host_notes.specs.Remembered.{IsRemembered}
use Rattle.host_notes.specs.laws.NotedLaws.{file_holds_noted, key_noted}
use Rattle.plan_parts.specs.Cuts.{IsCutBy}
use Rattle.plan_parts.specs.QuietCalls.{QuietCall}
use Rattle.plan_parts.specs.Steps.{IsAtRest, IsReady}
use Rattle.plan_parts.specs.laws.TakenLaws.{none_held}
use Rattle.plan_parts.specs.laws.TurnLaws.{given_no_refusal, no_places}
use Rattle.shared_disk.specs.State.{Told}
use Rattle.std.specs.Prelude.{Contains, IfSome}
use Rattle.vol_layout.specs.declared.kind.Kind.TheVariants as kinds
use Rattle.image_view.specs.Images.{block_at}
use Rattle.slot_lock_blocks.specs.declared.slot.Slot.{Slot}
use Rattle.slot_lock_blocks.specs.Slots.{slot_bytes}
use Rattle.recover_plan.specs.Replays.{IsThere, SlotsStay}
use Rattle.host_facts.specs.laws.ToldLaws.{both_of, both_same, both_written}
use Rattle.image_view.specs.laws.FrameLaws.{write_only}
use Rattle.shared_disk.specs.Calls.{after_write}
use Rattle.std.specs.Prelude.{List, slice_set}
use Rattle.vol_layout.specs.Places.{place_of}
use Rattle.vol_layout.specs.Ranges.{HasKind}
use Rattle.vol_layout.specs.declared.kind.Kind.{Kind}
use Rattle.recover_plan.specs.SlotTurns.{IsOnSlot, SlotTurn}
use Rattle.recover_plan.specs.Replays.{HasKey, IsShut, KeepsLocks}
use Rattle.host_facts.specs.Looks.{Looks}
use Rattle.lock_store.specs.Events.{IsRefusal}
use Rattle.lock_store.specs.Memories.{index_of, key_of, reads}
use Rattle.std.specs.Prelude.{Bool, slice_index_or}
use Rattle.vol_layout.specs.declared.kind.Resource.TheVariants.{File, Group, Part}
use Rattle.lock_store.specs.Views.{keys_of}
use Rattle.shared_disk.specs.Events.{Fences, IsShutOut, Reads, Registers, Tests, Writes}
use Rattle.shared_disk.specs.State.{State}
use Rattle.lock_store.specs.declared.answers.StepNo.TheVariants as steps

-- a world whose locks alone changed
pub locks_else : (v w : WorldView) → w.standing ≡ v.standing → with_locks v w.locks ≡ w
locks_else v w same =
    ap (λ (s : List (Option JournalRecord)). let x : WorldView = record { locks = w.locks; standing = s } in x) (sym same)

-- a command on slots waits for no digest
pub wants_none : (g : Geometry) (command : Command) (calls : List NotedCall) (digests : List Digest) (asks : Option Block)
    → IsOnSlot command → asks ≡ None → wanted g command calls digests asks ≡ None
wants_none g commands.Join [] [] asks on none = refl
wants_none g commands.Leave [] [] asks on none = refl
wants_none g commands.Beat [] [] asks on none = refl
wants_none g (commands.Look of) [] [] asks on none = refl
wants_none g (commands.Recover of) [] [] asks on none = refl
wants_none g command [] [] asks on none = absurd on
wants_none g command [] (digest ∷ digests) asks on none = none
wants_none g command (call ∷ calls) digests asks on none = none

-- its host is joined, or it is a `join`
pub seated : (command : Command) → IsOnSlot command → (joined_in command ≡ true) ⊎ (command ≡ commands.Join)
seated commands.Join on = inr refl
seated commands.Leave on = inl refl
seated commands.Beat on = inl refl
seated (commands.Look of) on = inl refl
seated (commands.Recover of) on = inl refl
seated command on = absurd on

module _ (command : Command) (v w : WorldView) (h : ℕ) (call : Call) (reply : Reply) (n : Notes) where
  abbrev pub made : Event
  made = event (key_at v.locks h) call reply

  abbrev pub moment : Moment
  moment = plan_moment v.locks.geometry h command v.locks.disk w.locks.disk (Some made) None n

  -- the turn is one of its host, where that has a key
  pub turn_of : IsOnSlot command → IsRemembered v.locks.geometry n.memory (host_at v.locks h) → key_at v.locks h ≢ 0
      → IsTurnOf v.locks h moment
  turn_of on remembered some = record {
    geometry = refl;
    host = refl;
    key = key_noted v.locks.geometry n.memory (host_at v.locks h) remembered some;
    seat = seated command on;
  }

  -- a call that was made and may be made
  pub slot_turn : (m : HostState) → IsOnSlot command → n.placed ≡ None → Did v.locks h call reply m w.locks
      → reply ≢ Refuses refusals.NoMemory → FilesStay v w → HasValidImage w → IsAllowed moment made
      → SlotTurn v.locks.geometry h command v.locks.disk w.locks.disk (Some made) n
  slot_turn m on unplaced did heard files valid allowed = record {
    on = on;
    acts = (did.acts, heard);
    may = allowed.made;
    marks = allowed.marks;
    files = no_places v.locks.geometry (plain_call_of command) (told_of v.locks) (told_of w.locks) files;
    valid = subst (λ (g : Geometry). OnImage w.locks.disk.state (IsValid g (counter_of w.locks))) did.geometry valid;
    unplaced = unplaced;
  }

-- a quiet call
pub quiet_slot_turn : (command : Command) (v w : WorldView) (h : ℕ) (e : Event) (n : Notes) (Before After : Notes → Type 0)
    → IsOnSlot command → IsRemembered v.locks.geometry n.memory (host_at v.locks h) → key_at v.locks h ≢ 0 → n.placed ≡ None → Before n
    → QuietCall command h v w e Before After → SlotTurn v.locks.geometry h command v.locks.disk w.locks.disk (Some e) n
quiet_slot_turn command v w h e n Before After on remembered some unplaced before quiet =
    let m = plan_moment v.locks.geometry h command v.locks.disk w.locks.disk (Some e) None n in
    let turn : IsTurnOf v.locks h m = record {
      geometry = refl;
      host = refl;
      key = key_noted v.locks.geometry n.memory (host_at v.locks h) remembered some;
      seat = seated command on;
    } in
    let allowed = quiet.allowed m turn refl before in record {
      on = on;
      acts = (quiet.acts, given_no_refusal e.reply quiet.answered);
      may = allowed.made;
      marks = allowed.marks;
      files = no_places v.locks.geometry (plain_call_of command) (told_of v.locks) (told_of w.locks) quiet.files;
      valid = subst (λ (g : Geometry). OnImage w.locks.disk.state (IsValid g (counter_of w.locks))) quiet.geometry quiet.valid;
      unplaced = unplaced;
    }

-- a ready host has a key
pub ready_key : (v : WorldView) (h : ℕ) → Consistent v.locks → IsReady v h → key_at v.locks h ≢ 0
ready_key v h c ready = joined_key v.locks.geometry.hosts (counter_of v.locks) h (host_at v.locks h) (c.memories h) ready.joined

-- it stays ready where it is joined, holds what it held, and its journal is empty
pub ready_on : (v w : WorldView) (h : ℕ) → w.locks.geometry ≡ v.locks.geometry → (host_at w.locks h).joined ≡ true
    → ((r : Resource) → holds (host_at w.locks h) r ≡ holds (host_at v.locks h) r) → Knows w h (RecordIs []) → IsReady v h → IsReady w h
ready_on v w h geometry joined same empty ready = record {
  joined = joined;
  empty = empty;
  taking = record {
    each = tt;
    only = λ r has shared held. ready.taking.only r (subst (λ (g : Geometry). HasResource g r) geometry has) shared (sym (same r) ∙ held);
  };
}

pub ready_same : (v w : WorldView) (h : ℕ) → w.locks.geometry ≡ v.locks.geometry → host_at w.locks h ≡ host_at v.locks h
    → (Knows v h (RecordIs []) → Knows w h (RecordIs [])) → IsReady v h → IsReady w h
ready_same v w h geometry memory empty ready =
    ready_on v w h geometry (ap (λ (m : HostState). m.joined) memory ∙ ready.joined) (λ r. ap (λ (m : HostState). holds m r) memory)
    (empty ready.empty) ready

-- and its notes are those of a host that rests
pub ready_rests : (w : WorldView) (h : ℕ) (g : Geometry) (memory : Memory) → Consistent w.locks → w.locks.geometry ≡ g → IsReady w h
    → IsRemembered g memory (host_at w.locks h) → AreFileLocks g memory.holds × (memory.left ≡ false)
ready_rests w h g memory c geometry ready is = (
  file_holds_noted g memory (host_at w.locks h) is
      (λ r has shared. none_held w h ready.taking r (subst (λ (x : Geometry). HasResource x r) (sym geometry) has) shared),
  is.left ∙ false_from_ne_true (host_at w.locks h).freed
      (λ freed. let both : true ≡ false = sym ready.joined ∙ (c.memories h).gone freed in cc),
)

pub at_rest_ready : (w : WorldView) (h : ℕ) (g : Geometry) (n : Notes) → w.locks.geometry ≡ g → IsReady w h
    → IsRemembered g n.memory (host_at w.locks h) → n ≡ at_rest n.memory n.dying n.pending n.watch → IsAtRest w h n
at_rest_ready w h g n geometry ready is between = record {
  remembered = subst (λ (x : Geometry). IsRemembered x n.memory (host_at w.locks h)) (sym geometry) is;
  rests = inl ready;
  between = between;
}

-- the notes of a command that goes on are those with its call, where it asked for nothing
or_none : (o : Option PlainReply) → option_or o None ≡ o
or_none None = refl
or_none (Some reply) = refl

pub going_on_call : (g : Geometry) (h : ℕ) (command : Command) (old new : DiskSeen) (e : Event) (n : Notes) → n.asks ≡ None
    → with_call g h command old.state (Some e) n ≡ going_on (plan_moment g h command old new (Some e) None n)
going_on_call g h command old new e n none =
    ap (λ (o : Option PlainReply). record (with_call g h command old.state (Some e) n) { placed = o }) (sym (or_none n.placed))
    ∙ ap (λ (o : Option Block). record (with_call g h command old.state (Some e) n) { placed = option_or n.placed None; asks = o }) none

-- what the notes with a call agree with, those of the command that goes on do
pub agrees_on : (After : Notes → Type 0) (g : Geometry) (h : ℕ) (command : Command) (old new : DiskSeen) (e : Event) (n : Notes)
    → n.asks ≡ None → After (with_call g h command old.state (Some e) n)
    → After (going_on (plan_moment g h command old new (Some e) None n))
agrees_on After g h command old new e n none after = subst After (going_on_call g h command old new e n none) after

-- a cut of notes that say less
pub cut_stronger : (command : Command) (v w : WorldView) (h : ℕ) (why : StepNo) (Before Now : Notes → Type 0)
    → ((n : Notes) → Now n → Before n) → IsCutBy command h v w why Before → IsCutBy command h v w why Now
cut_stronger command v w h why Before Now says (e, cut) = (
  e,
  record {
    acts = cut.acts;
    cause = cut.cause;
    state = cut.state;
    geometry = cut.geometry;
    others = cut.others;
    memory = cut.memory;
    same = cut.same;
    allowed = λ m turn of before. cut.allowed m turn of (says m.old before);
  },
)

-- a slot stands there still, where the host's key is as before and was registered, and the same is told
pub there_on : (v w : WorldView) (h of : ℕ) (slot : Slot) → w.locks.geometry ≡ v.locks.geometry → key_at w.locks h ≡ key_at v.locks h
    → Contains (keys_of v.locks) (key_at v.locks h) → told_of w.locks ≡ told_of v.locks → IsThere v h of slot → IsThere w h of slot
there_on v w h of slot geometry key registered told there here =
    subst (λ (g : Geometry). IfSome (told_of w.locks) (λ t. block_at g t.image (kinds.Slot of) ≡ slot_bytes slot)) (sym geometry)
    (subst (λ (o : Option Told). IfSome o (λ t. block_at v.locks.geometry t.image (kinds.Slot of) ≡ slot_bytes slot)) (sym told)
    (there registered))

-- what cannot be told is not told
pub none_told : (told : Option Told) → IfSome told (λ t. ⊥) → told ≡ None
none_told None never = refl
none_told (Some t) never = absurd never

-- the slots of other hosts are as before where the same is told, and where a block of another kind is written
pub slots_same : (v w : WorldView) (of : ℕ) → told_of w.locks ≡ told_of v.locks → SlotsStay v w of
slots_same v w of told = both_same (told_of v.locks) (told_of w.locks) _ told (λ image y below ne. refl)

pub slots_written : (v w : WorldView) (of : ℕ) (kind : Kind) (block : List ℕ) → HasKind v.locks.geometry kind
    → ((y : ℕ) → y ≢ of → kinds.Slot y ≢ kind)
    → w.locks.disk.state ≡ after_write (place_of v.locks.geometry kind) block v.locks.disk.state → SlotsStay v w of
slots_written v w of kind block has apart wrote =
    let g = v.locks.geometry in
    both_of (told_of v.locks) (told_of w.locks) (λ i j. j ≡ slice_set i (place_of g kind) block) _
    (both_written v.locks.disk.state w.locks.disk.state (place_of g kind) block wrote)
    (λ i j now y below ne.
    rw now (write_only g i kind block has (kinds.Slot y) below (apart y ne)))

reading_same : (m n : HostState) (r : Resource) → n.reading ≡ m.reading → reads n r ≡ reads m r
reading_same m n (File f) same = ap (λ (files : List Bool). slice_index_or files f false) same
reading_same m n (Part p) same = refl
reading_same m n (Group q) same = refl

-- a host that has its locks in memory as before holds and reads what it did
pub locks_by : (v w : WorldView) (h : ℕ) → (host_at w.locks h).held ≡ (host_at v.locks h).held
    → (host_at w.locks h).reading ≡ (host_at v.locks h).reading → KeepsLocks h v w
locks_by v w h held read = record {
  held = λ r. ap (λ (all : List Bool). slice_index_or all (index_of r) false) held;
  read = λ r. reading_same (host_at v.locks h) (host_at w.locks h) r read;
}

pub locks_same : (v w : WorldView) (h : ℕ) → host_at w.locks h ≡ host_at v.locks h → KeepsLocks h v w
locks_same v w h same = locks_by v w h (ap (λ (m : HostState). m.held) same) (ap (λ (m : HostState). m.reading) same)

-- its key is registered still, where no key was taken off
pub key_kept : (v w : WorldView) (h : ℕ) → key_at w.locks h ≡ key_at v.locks h → keys_of w.locks ≡ keys_of v.locks → HasKey v h → HasKey w h
key_kept v w h key keys here =
    subst (λ k. Contains (keys_of w.locks) k) (sym key) (subst (λ (ks : List ℕ). Contains ks (key_at v.locks h)) (sym keys) here)

pub key_looked : (v w : WorldView) (h : ℕ) → Looks h v w → HasKey w h
key_looked v w h looks =
    key_kept v w h (ap key_of looks.memory) (ap (λ (s : State). s.keys) looks.state) looks.registered

-- a call under a registered key is not shut out
not_shut : (k : ℕ) (call : Call) (s : State) → Contains s.keys k → IsShutOut k call s → ⊥
not_shut k (Reads place) s here shut = shut here
not_shut k (Writes place block) s here shut = shut here
not_shut k (Tests place old new) s here shut = shut here
not_shut k (Registers of) s here shut = shut
not_shut k (Fences target) s here shut = shut here

pub shut_out : (v w : WorldView) (h : ℕ) (call : Call) (place : ℕ) (Fits : List ℕ → Type 0) (why : StepNo)
    → IsRefusal v.locks h call place Fits why w.locks → IsShut v h why
shut_out v w h call place Fits steps.Fenced refused is here = not_shut (key_at v.locks h) call v.locks.disk.state here (refused.acts.fenced.0 refl)
shut_out v w h call place Fits why refused is here = cc

-- a call that asks for no key
abbrev pub AsksNoKey : Call → Type 0
AsksNoKey (Registers of) = ⊥
AsksNoKey call = Unit {0}

counter_by : (call : Call) (reply : Reply) (s t : State) → AsksNoKey call → Changes call reply s t → t.counter ≡ s.counter
counter_by (Registers of) reply s t none h = absurd none
counter_by call (Refuses cause) s t none h = ap (λ (u : State). u.counter) h
counter_by (Reads place) (Shows block) s t none h = ap (λ (u : State). u.counter) h.1
counter_by (Writes place block) Done s t none h = ap (λ (u : State). u.counter) h
counter_by (Tests place old new) Done s t none h = ap (λ (u : State). u.counter) h.1
counter_by (Tests place old new) (Shows block) s t none h = ap (λ (u : State). u.counter) h.2
counter_by (Fences target) Done s t none h = ap (λ (u : State). u.counter) h
counter_by call reply s t none h = absurd h

-- gives none
pub counter_kept : (e : Event) (old new : DiskSeen) → Acts e old new → AsksNoKey e.call → new.state.counter ≡ old.state.counter
counter_kept e old new acts none = counter_by e.call e.reply old.state new.state none acts.changes
