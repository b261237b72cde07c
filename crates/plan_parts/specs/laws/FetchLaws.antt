-- A lock of a part or a group that is tried, and a table that is read.
use Rattle.std.proofs.Common.{◌≡◌, ◌≢◌, ◌∷◌, ℕ, List, [], None, Option, Some, false, true, refl, ap, sym, subst, ◌∙◌, inl, inr}
use Rattle.std.proofs.Common.{true≢false}
use Rattle.std.proofs.lemmas.List.Elements.{Contains-push}
use Rattle.std.specs.Prelude.{Err, Ok}
use Rattle.vol_base.specs.Packing.{Packing, packed_bytes}
use Rattle.vol_base.specs.declared.block.Key.{Key}
use Rattle.vol_base.specs.declared.command.Command.{Command}
use Rattle.vol_layout.specs.declared.geometry.Geometry.{Geometry}
use Rattle.vol_layout.specs.declared.kind.Kind.TheVariants as kinds
use Rattle.vol_layout.specs.declared.kind.Resource.{Resource}
use Rattle.vol_layout.specs.declared.kind.Table.{Table}
use Rattle.vol_layout.specs.declared.kind.Table.TheVariants as tables
use Rattle.vol_layout.specs.Places.{kind_at, place_of}
use Rattle.vol_layout.specs.Ranges.{HasResource, HasTable}
use Rattle.vol_layout.specs.laws.PlaceLaws.{kind_at-place}
use Rattle.shared_disk.specs.Events.{Done, Reply, Shows, event}
use Rattle.shared_disk.specs.State.{State}
use Rattle.slot_lock_blocks.specs.declared.lock.LockWord.TheVariants as words
use Rattle.slot_lock_blocks.specs.LockWords.{lock_bytes}
use Rattle.table_blocks.specs.Tables.{IsPackingOf}
use Rattle.call_effects.specs.Places.{KeepsFiles}
use Rattle.lock_store.specs.declared.answers.StepNo.{StepNo}
use Rattle.lock_store.specs.declared.answers.StepNo.TheVariants as steps
use Rattle.lock_store.specs.declared.host.HostState.{HostState}
use Rattle.lock_store.specs.Events.{read_of}
use Rattle.lock_store.specs.Memories.{holds, with_hold}
use Rattle.lock_store.specs.Views.{counter_of, host_at, key_at, told_of}
use Rattle.image_view.specs.Valid.{IsValid}
use Rattle.disk_locks.specs.declared.answers.Got.TheVariants as got
use Rattle.disk_locks.specs.Calls.{IsShared, TriesShared, own_lock}
use Rattle.disk_locks.specs.Consistent.{Consistent}
use Rattle.disk_locks.specs.Keys.{owner}
use Rattle.disk_locks.specs.Others as locks'
use Rattle.host_facts.specs.Calls.{ReadsTable}
use Rattle.host_facts.specs.Facts.Fact.{TableIs}
use Rattle.host_facts.specs.Knows.{Knows}
use Rattle.host_facts.specs.LockResults.{Gains}
use Rattle.host_facts.specs.Looks.{Looks}
use Rattle.host_facts.specs.Others.{Others}
use Rattle.host_facts.specs.Relocks.{Relocks}
use Rattle.host_facts.specs.Views.{WorldView}
use Rattle.host_facts.specs.Wrote.{FilesStay, HasValidImage}
use Rattle.host_facts.specs.laws.LockFacts.{got_law, held_law}
use Rattle.host_facts.specs.laws.ToldLaws.{both_same}
use Rattle.host_notes.specs.Asked.{hold_call}
use Rattle.host_notes.specs.laws.LockMemories.{remembered_shared, remembered_shared_held}
use Rattle.host_notes.specs.laws.LockRights.{allowed_hold}
use Rattle.host_notes.specs.laws.OtherRights.{allowed_plain}
use Rattle.host_notes.specs.laws.QuietMemories.{remembered_same}
use Rattle.host_notes.specs.laws.TryLaws.{BySwap, tried_read, tried_shared, tried_shared_held}
use Rattle.host_notes.specs.laws.TurnLaws.{shown_same, valid_same}
use Rattle.host_runs.specs.DeviceCalls.{OnImage}
use Rattle.host_runs.specs.FullCauses.{IsFullUnder}
use Rattle.host_runs.specs.Notes.{NotedCall}
use Rattle.host_runs.specs.Tries.{Tries, frees_locks}
use Rattle.host_runs.specs.lemmas.OrderlyPlaced.{some_same}
use Rattle.plan_parts.specs.Cuts.{IsCut, IsCutBy}
use Rattle.plan_parts.specs.Fetched.{Fetched, LockBusy, LockTaken, IsToldFull}
use Rattle.plan_parts.specs.KeptTables.{AreKept, IsKept}
use Rattle.plan_parts.specs.QuietCalls.{Noted, Quiet, QuietCall}
use Rattle.plan_parts.specs.TakenLocks.{AreHeld, IsTaken, IsTaking}
use Rattle.plan_parts.specs.declared.kept.Kept.{Kept}
use Rattle.plan_parts.specs.declared.outcome.Outcome.{Outcome}
use Rattle.plan_parts.specs.declared.outcome.Outcome.TheVariants as outcomes
use Rattle.plan_parts.specs.laws.ApplyingLaws.{all_kept}
use Rattle.plan_parts.specs.laws.CutCallLaws.{cut_of, cut_read}
use Rattle.plan_parts.specs.laws.QuietCallLaws.{MeetsNone, full_more, noting, quiet_call, quiet_table, valid_now}
use Rattle.plan_parts.specs.laws.TakenLaws.{held_on, locks_else, one_or_two, others_locks, taking_same}

-- over a call that changed nothing the image is valid still, and no file changed
still_valid : (v w : WorldView) → Consistent v.locks → w.locks.geometry ≡ v.locks.geometry → w.locks.disk.state ≡ v.locks.disk.state
    → HasValidImage w
still_valid v w c geometry same =
    subst (λ (g : Geometry). OnImage w.locks.disk.state (IsValid g (counter_of w.locks))) (sym geometry)
    (valid_same v.locks.geometry v.locks.disk.state w.locks.disk.state same (valid_now v c))

still_files : (v w : WorldView) → w.locks.disk.state ≡ v.locks.disk.state → FilesStay v w
still_files v w same =
    both_same (told_of v.locks) (told_of w.locks) KeepsFiles (ap (λ (s : State). s.told) same) (λ image f. refl)

-- a block at a place
abbrev at_place : ℕ → List ℕ → Option (ℕ × List ℕ)
at_place place block = Some (place, block)

module _ (command : Command) (v w : WorldView) (h : ℕ) (r : Resource) (has : HasResource v.locks.geometry r) (shared : IsShared r)
    (joined : (host_at v.locks h).joined ≡ true) (c : Consistent v.locks) where
  -- the try of the lock, as it is noted
  abbrev tried_call : Reply → NotedCall
  tried_call reply = record { event = event (key_at v.locks h) (hold_call v.locks h r) reply; before = v.locks.disk.state }

  -- the try of a lock reads no group's table, whether it was done or showed a block
  done_meets_none : MeetsNone v.locks.geometry command (tried_call Done)
  done_meets_none f i n is reads full = let shown : None ≡ at_place reads.2.0 reads.1 = reads.2.2 in cc

  shown_meets_none : (word : List ℕ) → MeetsNone v.locks.geometry command (tried_call (Shows word))
  shown_meets_none word f i n is reads full =
      let place = place_of v.locks.geometry (kinds.Lock r) in
      let shown : at_place place word ≡ at_place reads.2.0 reads.1 = reads.2.2 in
      let here : place ≡ reads.2.0 = ap (λ (x : ℕ × List ℕ). x.0) (some_same (place, word) (reads.2.0, reads.1) shown) in
      let both : Some (kinds.Lock r) ≡ Some (kinds.Table (tables.Group reads.0)) =
      sym (kind_at-place v.locks.geometry (kinds.Lock r) has) ∙ ap (kind_at v.locks.geometry) here ∙ reads.2.1 in
      cc

  -- the lock was taken
  pub quiet_got : (outcome : Outcome) → TriesShared v.locks h r (Ok got.Got) w.locks → Others h v w → HasValidImage w → FilesStay v w
      → QuietCall command h v w (event (key_at v.locks h) (hold_call v.locks h r) Done) (Noted command h v outcome)
      (Noted command h w outcome)
  quiet_got outcome did others valid files =
      quiet_call command v w h (hold_call v.locks h r) Done (with_hold r true (host_at v.locks h)) _ _ did tt others valid files
      (λ t turn of before. allowed_hold v.locks h t turn c r Done joined has shared)
      (noting command v w h (hold_call v.locks h r) Done outcome outcome did.geometry refl
      (λ memory is. remembered_shared v.locks w.locks h memory is r c joined has shared did)
      (λ claims tries is. ap (λ (u : Tries). u.shown) (tried_shared v.locks.geometry h command claims (key_at v.locks h) tries r
      (BySwap (lock_bytes words.Free) (lock_bytes (own_lock v.locks h))) has shared) ∙ is)
      (full_more v.locks.geometry command outcome (tried_call Done) done_meets_none))

  -- it is held under another key, with which the command has to answer
  pub quiet_held : (key : Key) → frees_locks command ≡ false → TriesShared v.locks h r (Ok (got.Held key)) w.locks → Others h v w
      → QuietCall command h v w (event (key_at v.locks h) (hold_call v.locks h r) (Shows (lock_bytes (words.Held key))))
      (Noted command h v outcomes.Open) (Noted command h w (outcomes.Busy key))
  quiet_held key keeps did others =
      let word = lock_bytes (words.Held key) in
      let same = shown_same _ v.locks.disk w.locks.disk word did.0.acts refl in
      quiet_call command v w h (hold_call v.locks h r) (Shows word) (host_at v.locks h) _ _ did.0 tt others
      (still_valid v w c did.0.geometry same) (still_files v w same)
      (λ t turn of before. allowed_hold v.locks h t turn c r (Shows word) joined has shared)
      (noting command v w h (hold_call v.locks h r) (Shows word) outcomes.Open (outcomes.Busy key) did.0.geometry refl
      (λ memory is. remembered_shared_held v.locks w.locks h memory is r key did)
      (λ claims tries is. tried_shared_held v.locks.geometry h command claims (key_at v.locks h) tries r (lock_bytes words.Free)
      (lock_bytes (own_lock v.locks h)) key has shared keeps did.1 did.2 is)
      (full_more v.locks.geometry command outcomes.Open (tried_call (Shows word)) (shown_meets_none word)))

  -- the try was refused
  pub cut_try : (why : StepNo) → TriesShared v.locks h r (Err why) w.locks → Others h v w
      → ((at : ℕ) → why ≡ steps.Bad at → told_of v.locks ≡ None) → IsCutBy command h v w why (λ n. Unit {0})
  cut_try why did others sound =
      cut_of command v w h (hold_call v.locks h r) (place_of v.locks.geometry (kinds.Lock r)) refl others _
      (λ reply t turn of before. allowed_hold v.locks h t turn c r reply joined has shared) _ why did sound

-- one resource more is held
taking_more : (v w : WorldView) (h : ℕ) (r : Resource) (taken : List Resource) → HasResource v.locks.geometry r → IsShared r
    → holds (host_at v.locks h) r ≡ false → holds (host_at w.locks h) r ≡ true → Relocks h r v w → IsTaking v h taken
    → IsTaking w h (r ∷ taken)
taking_more v w h r taken has shared out held relocks is = record {
  each = (
    subst (λ (g : Geometry). HasResource g r) (sym relocks.passes.geometry) has,
    shared,
    held,
    apart taken is.each,
    held_on v w h r relocks taken (apart taken is.each) is.each,
  );
  only = λ q there part holds_it. elim (one_or_two q r) [
    | inl same ↦ inl (sym same)
    | inr other ↦
        let before = subst (λ (g : Geometry). HasResource g q) relocks.passes.geometry there in
        inr (is.only q before part (sym (relocks.memory.holds_same q before other) ∙ holds_it))
  ];
}
  where
    apart : (more : List Resource) → AreHeld v h more → IsTaken more r → ⊥
    apart [] are there = there
    apart (q ∷ more) are (inl first) =
        true≢false (sym (subst (λ (s : Resource). holds (host_at v.locks h) s ≡ true) first are.2) ∙ out)
    apart (q ∷ more) are (inr later) = apart more are.4 later

module _ (v w : WorldView) (h : ℕ) (r : Resource) (taken after : List Resource) (c : Consistent v.locks) (later : Consistent w.locks)
    (has : HasResource v.locks.geometry r) (shared : IsShared r) (joined : (host_at v.locks h).joined ≡ true)
    (is : IsTaking v h taken) (others : locks'.Others h v.locks w.locks) (standing : w.standing ≡ v.standing) where
  pub lock_taken : holds (host_at v.locks h) r ≡ false → TriesShared v.locks h r (Ok got.Got) w.locks → after ≡ r ∷ taken
      → LockTaken h v w r taken after
  lock_taken out did pushed =
      let law = got_law v h w.locks c others r has did in
      let gains : Gains h r v w = subst (λ (x : WorldView). Gains h r v x) (sym (locks_else v w standing)) law.0 in record {
        pushed = pushed;
        gains = gains;
        taking = subst (IsTaking w h) (sym pushed) (taking_more v w h r taken has shared out law.1 gains.relocks is);
        event = event (key_at v.locks h) (hold_call v.locks h r) Done;
        quiet = λ command outcome. quiet_got command v w h r has shared joined c outcome did (others_locks v w h c others standing)
            (valid_now w later) gains.relocks.passes.files;
      }

  pub lock_busy : (key : Key) → TriesShared v.locks h r (Ok (got.Held key)) w.locks → after ≡ taken → LockBusy h v w taken after key
  lock_busy key did same = record {
    same = same;
    looks = subst (λ (x : WorldView). Looks h v x) (sym (locks_else v w standing)) (held_law v h w.locks c others r key did);
    taking = subst (IsTaking w h) (sym same) (taking_same v w h taken did.0.geometry did.0.mine is);
    other = did.2;
    event = event (key_at v.locks h) (hold_call v.locks h r) (Shows (lock_bytes (words.Held key)));
    busy = λ command keeps.
        quiet_held command v w h r has shared joined c key keeps did (others_locks v w h c others standing);
  }

  pub lock_cut : (why : StepNo) → TriesShared v.locks h r (Err why) w.locks → ((at : ℕ) → why ≡ steps.Bad at → told_of v.locks ≡ None)
      → IsCut h v w why
  lock_cut why did sound command =
      cut_try command v w h r has shared joined c why did (others_locks v w h c others standing) sound

-- a group's table was read while the volume is full under the host's key
quiet_full : (command : Command) (v w : WorldView) (h r : ℕ) (table : Packing) → HasTable v.locks.geometry (tables.Group r)
    → ReadsTable v.locks h (tables.Group r) (Ok table) w.locks → Others h v w → Consistent v.locks
    → OnImage v.locks.disk.state (IsFullUnder v.locks.geometry (key_at v.locks h))
    → QuietCall command h v w (event (key_at v.locks h) (read_of v.locks (kinds.Table (tables.Group r))) (Shows (packed_bytes 4 table)))
    (Noted command h v outcomes.Open) (Noted command h w outcomes.Full)
quiet_full command v w h r table has did others c full =
    let kind = kinds.Table (tables.Group r) in
    let block = packed_bytes 4 table in
    let call : NotedCall = record { event = event (key_at v.locks h) (read_of v.locks kind) (Shows block); before = v.locks.disk.state } in
    let same : w.locks.disk.state ≡ v.locks.disk.state = did.0.acts.changes.1 in
    quiet_call command v w h (read_of v.locks kind) (Shows block) (host_at v.locks h) _ _ did.0 tt others
    (still_valid v w c did.0.geometry same) (still_files v w same)
    (λ t turn of before. allowed_plain v.locks h t turn (read_of v.locks kind) (Shows block) tt)
    (noting command v w h (read_of v.locks kind) (Shows block) outcomes.Open outcomes.Full did.0.geometry refl
    (λ memory is. remembered_same v.locks w.locks h memory (read_of v.locks kind) (Shows block) is tt did.0.mine)
    (λ claims tries is. ap (λ (u : Tries). u.shown)
    (tried_read v.locks.geometry h command claims (key_at v.locks h) tries kind (Shows block) has (λ of e. cc)) ∙ is)
    (λ calls before. (
      call,
      Contains-push calls call,
      (r, block, (place_of v.locks.geometry kind, kind_at-place v.locks.geometry kind has, refl)),
      full,
    )))

-- the table of a held resource was read
pub table_fetched : (v w : WorldView) (h : ℕ) (t : Table) (table : Packing) (kept : Kept) → Consistent v.locks
    → HasTable v.locks.geometry t → holds (host_at v.locks h) (owner t) ≡ true → ReadsTable v.locks h t (Ok table) w.locks → Others h v w
    → Looks h v w → Knows w h (TableIs t table) → kept ≡ record { which = t; table = table } → Fetched h v w t kept
table_fetched v w h t table kept c has held did others looks known same = record {
  which = ap (λ (k : Kept). k.which) same;
  looks = looks;
  is_kept = subst (IsKept w h) (sym same) (record {
    table = subst (λ (g : Geometry). HasTable g t) (sym looks.geometry) has;
    held = ap (λ (m : HostState). holds m (owner t)) looks.memory ∙ held;
    packing = subst (λ (g : Geometry). IsPackingOf g t table) (sym looks.geometry) did.1;
    known = known;
  });
  event = event (key_at v.locks h) (read_of v.locks (kinds.Table t)) (Shows (packed_bytes 4 table));
  quiet = λ command outcome spares. quiet_table command v w h t table outcome has did others (valid_now v c) spares;
  full = λ command r group full. full_at r group command full;
}
  where
    full_at : (r : ℕ) → t ≡ tables.Group r → (command : Command)
        → OnImage v.locks.disk.state (IsFullUnder v.locks.geometry (key_at v.locks h))
        → QuietCall command h v w (event (key_at v.locks h) (read_of v.locks (kinds.Table t)) (Shows (packed_bytes 4 table)))
        (Noted command h v outcomes.Open) (Noted command h w outcomes.Full)
    full_at r group command full =
        subst (λ (u : Table). QuietCall command h v w
        (event (key_at v.locks h) (read_of v.locks (kinds.Table u)) (Shows (packed_bytes 4 table))) (Noted command h v outcomes.Open)
        (Noted command h w outcomes.Full)) (sym group)
        (quiet_full command v w h r table (subst (HasTable v.locks.geometry) group has)
        (subst (λ (u : Table). ReadsTable v.locks h u (Ok table) w.locks) group did) others c full)

pub fetch_cut : (v w : WorldView) (h : ℕ) (t : Table) (why : StepNo) → Others h v w → ReadsTable v.locks h t (Err why) w.locks
    → ((at : ℕ) → why ≡ steps.Bad at → told_of v.locks ≡ None) → IsCut h v w why
fetch_cut v w h t why others did sound = cut_read v w h (kinds.Table t) _ why others did sound

-- a read is quiet for every command where the volume is not full under the host's key, and where the table is no group's
pub quiet_spared : (v w : WorldView) (h : ℕ) (t : Table) (kept : Kept) (got : Fetched h v w t kept) → (IsToldFull v h → ⊥)
    → Quiet h v w got.event
quiet_spared v w h t kept got spares command outcome = got.quiet command outcome (λ f i n r write table. spares)

pub quiet_no_group : (v w : WorldView) (h : ℕ) (t : Table) (kept : Kept) (got : Fetched h v w t kept) → ((r : ℕ) → t ≢ tables.Group r)
    → Quiet h v w got.event
quiet_no_group v w h t kept got other command outcome = got.quiet command outcome (λ f i n r write table full. other r table)

-- kept tables stay so over the calls of other hosts
pub kept_still : (v w : WorldView) (h x : ℕ) (left : List Kept) → Others x v w → h ≢ x → key_at v.locks h ≢ 0 → AreKept v h left
    → AreKept w h left
kept_still v w h x left others apart some are =
    all_kept v w h left others.locks.lasts.geometry (others.locks.keeps h apart some).memory
    (λ t p here. others.facts h (TableIs t p) apart) are
