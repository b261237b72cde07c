-- What a call says that it did makes it a quiet call of any command: a read, the write of a plain block, and the freeing of a lock.
use Rattle.std.proofs.Common.{◌≡◌, ◌≢◌, ◌++◌, ◌∷◌, ℕ, List, [], None, Option, Some, refl, ap, sym, subst, ◌∙◌, inl, inr}
use Rattle.std.proofs.lemmas.List.Elements.{Contains-append_left, Contains-push_cases}
use Rattle.std.specs.Prelude.{IsSomeAnd, Ok}
use Rattle.vol_base.specs.declared.command.Command.{Command}
use Rattle.vol_base.specs.declared.command.Command.TheVariants.{Write}
use Rattle.vol_layout.specs.declared.geometry.Geometry.{Geometry}
use Rattle.vol_layout.specs.declared.kind.Kind.{Kind}
use Rattle.vol_layout.specs.declared.kind.Kind.TheVariants as kinds
use Rattle.vol_layout.specs.declared.kind.Resource.{Resource}
use Rattle.vol_layout.specs.declared.kind.Table.TheVariants as tables
use Rattle.vol_layout.specs.Places.{kind_at, place_of}
use Rattle.vol_layout.specs.Ranges.{HasKind, HasResource}
use Rattle.vol_layout.specs.laws.PlaceLaws.{kind_at-place}
use Rattle.shared_disk.specs.Events.{Call, Done, Event, Reply, Shows, Writes, event}
use Rattle.shared_disk.specs.State.{State}
use Rattle.slot_lock_blocks.specs.declared.lock.LockWord.TheVariants as words
use Rattle.slot_lock_blocks.specs.LockWords.{lock_bytes}
use Rattle.lock_store.specs.declared.host.HostState.{HostState}
use Rattle.lock_store.specs.Calls.{WritesBlock}
use Rattle.lock_store.specs.Events.{Did, read_of}
use Rattle.lock_store.specs.Views.{host_at, key_at, told_of}
use Rattle.disk_locks.specs.Calls.{Unlocks}
use Rattle.disk_locks.specs.Consistent.{Consistent}
use Rattle.disk_locks.specs.MayWrite.{IsWritable}
use Rattle.host_runs.specs.FullCauses.{IsFullUnder, ReadsGroup}
use Rattle.host_runs.specs.Memories.{Memory}
use Rattle.host_runs.specs.Memories as memories
use Rattle.host_runs.specs.Notes.{NotedCall, Notes}
use Rattle.host_runs.specs.Tries.{Tries, tried}
use Rattle.host_notes.specs.Asked.{unlock_call}
use Rattle.host_notes.specs.FileTurns.{IsGiven, MeetsNoFull}
use Rattle.host_notes.specs.Remembered.{IsRemembered, RemembersCall}
use Rattle.host_notes.specs.laws.BlockMemories.{remembered_block_write}
use Rattle.host_notes.specs.laws.LockMemories.{remembered_unlock}
use Rattle.host_notes.specs.laws.LockRights.{allowed_unlock}
use Rattle.host_notes.specs.laws.OtherRights.{allowed_plain}
use Rattle.host_notes.specs.laws.QuietMemories.{remembered_same}
use Rattle.host_notes.specs.laws.TryLaws.{ByWrite, tried_file, tried_plain, tried_read, tried_shared}
use Rattle.host_facts.specs.Others.{Others}
use Rattle.host_facts.specs.laws.ToldLaws.{both_same, map_told}
use Rattle.host_notes.specs.Asked.{IsPlainPlace}
use Rattle.host_notes.specs.laws.TurnLaws.{valid_same}
use Rattle.host_runs.specs.DeviceCalls.{OnImage}
use Rattle.host_runs.specs.lemmas.OrderlyPlaced.{some_same}
use Rattle.image_view.specs.Valid.{IsValid}
use Rattle.call_effects.specs.Places.{KeepsFiles}
use Rattle.disk_locks.specs.Agreement.{Agrees}
use Rattle.lock_store.specs.Memories.{with_hold}
use Rattle.lock_store.specs.Views.{counter_of, keys_of}
use Rattle.host_facts.specs.Calls.{ReadsTable}
use Rattle.std.specs.Prelude.{false}
use Rattle.vol_base.specs.Packing.{Packing, packed_bytes}
use Rattle.vol_layout.specs.declared.kind.Table.{Table}
use Rattle.vol_layout.specs.Ranges.{HasTable}
use Rattle.vol_layout.specs.declared.kind.Resource.TheVariants.{File, Group, Part}
use Rattle.host_facts.specs.Views.{WorldView}
use Rattle.host_facts.specs.Wrote.{FilesStay, HasValidImage}
use Rattle.plan_parts.specs.QuietCalls.{Allows, IsFullNoted, Noted, Noting, QuietCall, placed_of, shown_of}
use Rattle.plan_parts.specs.declared.outcome.Outcome.{Outcome}
use Rattle.plan_parts.specs.declared.outcome.Outcome.TheVariants as outcomes
use Rattle.host_runs.specs.Awaited.{wanted}
use Rattle.vol_base.specs.declared.block.Block.{Block}
use Rattle.vol_base.specs.declared.block.Digest.{Digest}

-- the call met no full volume, if the command is one that has to answer so
abbrev pub MeetsNone : Geometry → Command → NotedCall → Type 0
MeetsNone g command c =
    (f i n : ℕ) → command ≡ Write f i n → ReadsGroup g c → IsSomeAnd c.before.told (λ t. IsFullUnder g c.event.key t.image) → ⊥

-- a block at a place
abbrev at_place : ℕ → List ℕ → Option (ℕ × List ℕ)
at_place place block = Some (place, block)

-- the calls met none, and nor did one more
meets_none_more : (g : Geometry) (command : Command) (calls : List NotedCall) (c : NotedCall) → MeetsNoFull g command calls
    → MeetsNone g command c → MeetsNoFull g command (calls ++ c ∷ [])
meets_none_more g command calls c before none f i n is met =
    elim (Contains-push_cases calls c met.0 met.1) [
      | inl earlier ↦ before f i n is (met.0, earlier, met.2, met.3)
      | inr last ↦ none f i n is (subst (λ (d : NotedCall). ReadsGroup g d) (sym last) met.2)
          (subst (λ (d : NotedCall). IsSomeAnd d.before.told (λ t. IsFullUnder g d.event.key t.image)) (sym last) met.3)
    ]

-- so it is of a command that has met none, or one
pub full_more : (g : Geometry) (command : Command) (outcome : Outcome) (c : NotedCall) → MeetsNone g command c → (calls : List NotedCall)
    → IsFullNoted g command outcome calls → IsFullNoted g command outcome (calls ++ c ∷ [])
full_more g command outcomes.Full c none calls met = (met.0, Contains-append_left calls (c ∷ []) met.0 met.1, met.2, met.3)
full_more g command outcomes.Open c none calls before = meets_none_more g command calls c before none
full_more g command (outcomes.Placed reply) c none calls before = meets_none_more g command calls c before none
full_more g command (outcomes.Busy key) c none calls before = meets_none_more g command calls c before none

-- behind a call nothing is waited for but what the command asks for
pub wanted_behind : (g : Geometry) (command : Command) (calls : List NotedCall) (c : NotedCall) (digests : List Digest) (asks : Option Block)
    → wanted g command (calls ++ c ∷ []) digests asks ≡ asks
wanted_behind g command [] c digests asks = refl
wanted_behind g command (d ∷ calls) c digests asks = refl

-- what a consistent world has
pub valid_now : (v : WorldView) → Consistent v.locks → HasValidImage v
valid_now v is =
    map_told (told_of v.locks) (λ t. Agrees v.locks.geometry (counter_of v.locks) (keys_of v.locks) v.locks.hosts t.image)
    (λ t. IsValid v.locks.geometry (counter_of v.locks) t.image) is.told (λ t agrees. agrees.valid)

module _ (command : Command) (v w : WorldView) (h : ℕ) where
  abbrev noted_call : Call → Reply → NotedCall
  noted_call call reply = record { event = event (key_at v.locks h) call reply; before = v.locks.disk.state }

  abbrev behind : Call → Reply → Memory → Memory
  behind call reply memory = memories.remembered v.locks.geometry h (event (key_at v.locks h) call reply) memory

  -- the notes behind any call, of which it is shown what they become
  pub noting : (call : Call) (reply : Reply) (outcome after : Outcome) → w.locks.geometry ≡ v.locks.geometry
      → placed_of outcome ≡ placed_of after
      → ((memory : Memory) → IsRemembered v.locks.geometry memory (host_at v.locks h) → RemembersCall v.locks h memory call reply w.locks)
      → ((claims : List ℕ) (tries : Tries) → tries.shown ≡ shown_of outcome
      → (tried v.locks.geometry h command claims (event (key_at v.locks h) call reply) tries).shown ≡ shown_of after)
      → ((calls : List NotedCall) → IsFullNoted v.locks.geometry command outcome calls
      → IsFullNoted v.locks.geometry command after (calls ++ noted_call call reply ∷ []))
      → Noting command h v (event (key_at v.locks h) call reply) (Noted command h v outcome) (Noted command h w after)
  noting call reply outcome after geometry place remembered shown full = λ n was. record {
    remembered = subst (λ (g : Geometry). IsRemembered g (behind call reply n.memory) (host_at w.locks h)) (sym geometry)
        (remembered n.memory was.remembered);
    placed_is = was.placed_is ∙ place;
    shown_is = shown n.memory.claims n.tries was.shown_is;
    full = subst (λ (g : Geometry). IsFullNoted g command after (n.calls ++ noted_call call reply ∷ [])) (sym geometry)
        (full n.calls was.full);
    asks = was.asks;
    wants = wanted_behind w.locks.geometry command n.calls (noted_call call reply) n.digests n.asks ∙ was.asks;
  }

  -- any call with its notes
  pub quiet_call : (call : Call) (reply : Reply) (m : HostState) (Before After : Notes → Type 0) → Did v.locks h call reply m w.locks
      → IsGiven reply → Others h v w → HasValidImage w → FilesStay v w
      → Allows command h v (event (key_at v.locks h) call reply) Before
      → Noting command h v (event (key_at v.locks h) call reply) Before After
      → QuietCall command h v w (event (key_at v.locks h) call reply) Before After
  quiet_call call reply m Before After did given others valid files allowed noted = record {
    acts = did.acts;
    answered = given;
    geometry = did.geometry;
    others = others;
    valid = valid;
    files = files;
    allowed = allowed;
    noted = noted;
  }

  -- nothing is shown by a write
  write_meets_none : (place : ℕ) (block : List ℕ) → MeetsNone v.locks.geometry command (noted_call (Writes place block) Done)
  write_meets_none place block f i n is reads full =
      let shown : None ≡ at_place reads.2.0 reads.1 = reads.2.2 in cc

  -- the block of a kind was read, which is no slot; and where it is a group's table and the command may have to say that the volume is
  -- full, it was not
  pub quiet_read : (kind : Kind) (block : List ℕ) (outcome : Outcome) → HasKind v.locks.geometry kind → ((of : ℕ) → kind ≢ kinds.Slot of)
      → Did v.locks h (read_of v.locks kind) (Shows block) (host_at v.locks h) w.locks → Others h v w → HasValidImage v
      → ((f i n r : ℕ) → command ≡ Write f i n → kind ≡ kinds.Table (tables.Group r)
      → IsSomeAnd (told_of v.locks) (λ t. IsFullUnder v.locks.geometry (key_at v.locks h) t.image) → ⊥)
      → QuietCall command h v w (event (key_at v.locks h) (read_of v.locks kind) (Shows block)) (Noted command h v outcome)
      (Noted command h w outcome)
  quiet_read kind block outcome has other did others valid spare =
      let same : w.locks.disk.state ≡ v.locks.disk.state = did.acts.changes.1 in
      quiet_call (read_of v.locks kind) (Shows block) (host_at v.locks h) _ _ did tt others (valid_still same) (files_still same)
      (λ t turn of before. allowed_plain v.locks h t turn (read_of v.locks kind) (Shows block) tt)
      (noting (read_of v.locks kind) (Shows block) outcome outcome did.geometry refl
      (λ memory is. remembered_same v.locks w.locks h memory (read_of v.locks kind) (Shows block) is tt did.mine)
      (λ claims tries is. ap (λ (u : Tries). u.shown)
      (tried_read v.locks.geometry h command claims (key_at v.locks h) tries kind (Shows block) has other) ∙ is)
      (full_more v.locks.geometry command outcome (noted_call (read_of v.locks kind) (Shows block)) (λ f i n is reads full.
      spare f i n reads.0 is (read_kind reads.0 reads.1 reads.2.0 reads.2.1 reads.2.2) full)))
    where
      read_kind : (r : ℕ) (shows : List ℕ) (place : ℕ) → kind_at v.locks.geometry place ≡ Some (kinds.Table (tables.Group r))
          → at_place (place_of v.locks.geometry kind) block ≡ at_place place shows → kind ≡ kinds.Table (tables.Group r)
      read_kind r shows place at is =
          let here : place_of v.locks.geometry kind ≡ place =
          ap (λ (x : ℕ × List ℕ). x.0) (some_same (place_of v.locks.geometry kind, block) (place, shows) is) in
          some_same kind (kinds.Table (tables.Group r))
          (sym (kind_at-place v.locks.geometry kind has) ∙ ap (kind_at v.locks.geometry) here ∙ at)

      valid_still : w.locks.disk.state ≡ v.locks.disk.state → HasValidImage w
      valid_still same =
          subst (λ (g : Geometry). OnImage w.locks.disk.state (IsValid g (counter_of w.locks))) (sym did.geometry)
          (valid_same v.locks.geometry v.locks.disk.state w.locks.disk.state same valid)

      files_still : w.locks.disk.state ≡ v.locks.disk.state → FilesStay v w
      files_still same = both_same (told_of v.locks) (told_of w.locks) KeepsFiles (ap (λ (s : State). s.told) same) (λ image f. refl)

  -- the block of a kind was written that is no slot and no lock
  abbrev pub write_event : Kind → List ℕ → Event
  write_event kind block = event (key_at v.locks h) (Writes (place_of v.locks.geometry kind) block) Done

  pub noted_write : (kind : Kind) (block : List ℕ) (outcome : Outcome) (done : Unit) → IsWritable v.locks.geometry kind
      → WritesBlock v.locks h kind block (host_at v.locks h) (Ok done) w.locks
      → Noting command h v (write_event kind block) (Noted command h v outcome) (Noted command h w outcome)
  noted_write kind block outcome done writable did =
      let place = place_of v.locks.geometry kind in
      let plain : IsPlainPlace v.locks.geometry place = record { kind = kind; writable = writable; at = refl } in
      noting (Writes place block) Done outcome outcome did.geometry refl
      (λ memory is. remembered_block_write v.locks w.locks h memory is kind block done writable did)
      (λ claims tries is. ap (λ (u : Tries). u.shown)
      (tried_plain v.locks.geometry h command claims (key_at v.locks h) tries place (ByWrite block) Done plain) ∙ is)
      (full_more v.locks.geometry command outcome (noted_call (Writes place block) Done) (write_meets_none place block))

  pub allowed_write : (kind : Kind) (block : List ℕ) (Before : Notes → Type 0) → IsWritable v.locks.geometry kind
      → Allows command h v (write_event kind block) Before
  allowed_write kind block Before writable t turn of before =
      allowed_plain v.locks h t turn (Writes (place_of v.locks.geometry kind) block) Done
      (record { kind = kind; writable = writable; at = refl })

  pub quiet_write : (kind : Kind) (block : List ℕ) (outcome : Outcome) (done : Unit)
      → IsWritable v.locks.geometry kind → WritesBlock v.locks h kind block (host_at v.locks h) (Ok done) w.locks → Others h v w
      → HasValidImage w → FilesStay v w
      → QuietCall command h v w (write_event kind block) (Noted command h v outcome) (Noted command h w outcome)
  quiet_write kind block outcome done writable did others valid files =
      quiet_call (Writes (place_of v.locks.geometry kind) block) Done (host_at v.locks h) _ _ did tt others valid files
      (allowed_write kind block _ writable) (noted_write kind block outcome done writable did)

  -- a lock that the host held was freed
  pub quiet_unlock : (r : Resource) (outcome : Outcome) (done : Unit) → Consistent v.locks
      → Consistent w.locks → HasResource v.locks.geometry r → Unlocks v.locks h r (Ok done) w.locks → Others h v w → FilesStay v w
      → QuietCall command h v w (event (key_at v.locks h) (unlock_call v.locks r) Done) (Noted command h v outcome)
      (Noted command h w outcome)
  quiet_unlock r outcome done c later has did others files =
      let place = place_of v.locks.geometry (kinds.Lock r) in
      quiet_call (unlock_call v.locks r) Done (with_hold r false (host_at v.locks h)) _ _ did tt others (valid_now w later) files
      (λ t turn of before. allowed_unlock v.locks h t turn c r Done has)
      (noting (unlock_call v.locks r) Done outcome outcome did.geometry refl
      (λ memory is. remembered_unlock v.locks w.locks h memory is r done c has did)
      (λ claims tries is. unlock_shown r claims tries has ∙ is)
      (full_more v.locks.geometry command outcome (noted_call (unlock_call v.locks r) Done)
      (write_meets_none place (lock_bytes words.Free))))
    where
      unlock_shown : (r : Resource) (claims : List ℕ) (tries : Tries) → HasResource v.locks.geometry r
          → (tried v.locks.geometry h command claims (event (key_at v.locks h) (unlock_call v.locks r) Done) tries).shown ≡ tries.shown
      unlock_shown (File f) claims tries has = ap (λ (u : Tries). u.shown)
          (tried_file v.locks.geometry h command claims (key_at v.locks h) tries f (ByWrite (lock_bytes words.Free)) has)
      unlock_shown (Part p) claims tries has = ap (λ (u : Tries). u.shown)
          (tried_shared v.locks.geometry h command claims (key_at v.locks h) tries (Part p) (ByWrite (lock_bytes words.Free)) has tt)
      unlock_shown (Group q) claims tries has = ap (λ (u : Tries). u.shown)
          (tried_shared v.locks.geometry h command claims (key_at v.locks h) tries (Group q) (ByWrite (lock_bytes words.Free)) has tt)

  -- a table was read
  pub quiet_table : (t : Table) (table : Packing) (outcome : Outcome) → HasTable v.locks.geometry t
      → ReadsTable v.locks h t (Ok table) w.locks → Others h v w → HasValidImage v
      → ((f i n r : ℕ) → command ≡ Write f i n → t ≡ tables.Group r
      → IsSomeAnd (told_of v.locks) (λ t. IsFullUnder v.locks.geometry (key_at v.locks h) t.image) → ⊥)
      → QuietCall command h v w (event (key_at v.locks h) (read_of v.locks (kinds.Table t)) (Shows (packed_bytes 4 table)))
      (Noted command h v outcome) (Noted command h w outcome)
  quiet_table t table outcome has did others valid spare =
      quiet_read (kinds.Table t) (packed_bytes 4 table) outcome has (λ of e. cc) did.0 others valid
      (λ f i n r is e. spare f i n r is (let one : t ≡ tables.Group r = cc in one))
