-- The steps by which a dead host's record is made again.
use Rattle.std.proofs.Common.{◌≡◌, ◌≢◌, ◌+◌, ◌<◌, ◌≤◌, ◌∙◌, ℕ, zero, suc, true, true≢false, List, [], None, Option, Some, refl, ap}
use Rattle.std.proofs.Common.{sym, subst, arith, inl, inr}
use Rattle.std.proofs.lemmas.Bool.{cases_eq, cases_lt, le-ltb, lt-ltb}
use Rattle.std.proofs.lemmas.Option.{slice_get-get_or}
use Rattle.std.specs.Prelude.{Err, IfSome, Ok, length, slice_get, slice_index_or}
use Rattle.vol_base.specs.declared.block.Key.{Key}
use Rattle.vol_base.specs.declared.command.Command.{Command}
use Rattle.vol_base.specs.Packing.{Packing, packed_bytes}
use Rattle.vol_layout.specs.declared.field.Edit.{Edit}
use Rattle.vol_layout.specs.declared.geometry.Geometry.{Geometry}
use Rattle.vol_layout.specs.declared.kind.Kind.{Kind}
use Rattle.vol_layout.specs.declared.kind.Kind.TheVariants as kinds
use Rattle.vol_layout.specs.declared.kind.Table.{Table}
use Rattle.vol_layout.specs.Edits.{AreEdits, IsEdit, touches}
use Rattle.vol_layout.specs.Fields.{table_of}
use Rattle.vol_layout.specs.Journal.{journal_bytes}
use Rattle.vol_layout.specs.Places.{place_of}
use Rattle.vol_layout.specs.Ranges.{HasKind, HasTable}
use Rattle.vol_layout.specs.laws.EditLaws.{touches-at}
use Rattle.shared_disk.specs.Events.{Done, Shows, Tests, Writes, event}
use Rattle.shared_disk.specs.State.{State}
use Rattle.journal_block.specs.JournalRecord.{JournalRecord, entry_edits, entry_key}
use Rattle.image_view.specs.laws.JournalLaws.{cases_Table}
use Rattle.call_effects.specs.Places.{KeepsFiles}
use Rattle.table_blocks.specs.Made.{made}
use Rattle.table_blocks.specs.Tables.{IsPackingOf}
use Rattle.lock_store.specs.declared.answers.StepNo.{StepNo}
use Rattle.lock_store.specs.Calls.{WritesBlock}
use Rattle.lock_store.specs.Events.{Did, read_of}
use Rattle.lock_store.specs.Memories.{holds, key_of}
use Rattle.lock_store.specs.declared.host.HostState.{HostState}
use Rattle.plan_parts.specs.Steps.{IsReady}
use Rattle.lock_store.specs.Views.{counter_of, host_at, key_at, told_of}
use Rattle.host_runs.specs.DeviceCalls.{OnImage}
use Rattle.image_view.specs.Valid.{IsValid}
use Rattle.host_notes.specs.laws.TurnLaws.{valid_same}
use Rattle.disk_locks.specs.Calls.{IsSound}
use Rattle.disk_locks.specs.Consistent.{Consistent}
use Rattle.disk_locks.specs.MayWrite.{IsWritable}
use Rattle.watch.specs.declared.watch.Look.{Look}
use Rattle.host_runs.specs.NotedCalls.{SwapsKind}
use Rattle.host_runs.specs.Tries.{Tries}
use Rattle.host_facts.specs.Calls.{FitsJournal, FitsTable, ReadsJournal, ReadsTable}
use Rattle.host_facts.specs.Facts.Fact.{DeadRecord, Given, RecordIs, TableIs}
use Rattle.host_facts.specs.Knows.{Knows}
use Rattle.host_facts.specs.Looks.{Looks}
use Rattle.host_facts.specs.Others.{Others}
use Rattle.host_facts.specs.Records.{IsReplayed}
use Rattle.host_facts.specs.Replays.{KnowsDead}
use Rattle.host_facts.specs.Views.{WorldView}
use Rattle.host_facts.specs.Wrote.{FilesStay, HasValidImage, Wrote}
use Rattle.host_facts.specs.laws.DoneLaws.{replayed_made, replayed_stays}
use Rattle.host_facts.specs.laws.ToldLaws.{both_same}
use Rattle.host_notes.specs.Asked.{IsPlainPlace}
use Rattle.host_notes.specs.laws.BlockMemories.{remembered_block_write}
use Rattle.host_notes.specs.laws.OtherRights.{allowed_plain}
use Rattle.host_notes.specs.laws.QuietMemories.{remembered_same}
use Rattle.host_notes.specs.laws.TryLaws.{ByWrite, tried_plain, tried_read}
use Rattle.plan_parts.specs.QuietCalls.{QuietCall}
use Rattle.plan_parts.specs.laws.CutCallLaws.{cut_read, cut_weaker, cut_write}
use Rattle.plan_parts.specs.laws.QuietCallLaws.{allowed_write, quiet_call, valid_now}
use Rattle.recover_plan.specs.RecoverNotes.{GoingNoted, StageNoted, dead_of}
use Rattle.recover_plan.specs.Replaying.{AreReplayed, HasClaim, IsAllReplayed, IsDue, IsDueAt, IsNextEdit, IsReplaying}
use Rattle.recover_plan.specs.Replays.{IsCutAt, Went}
use Rattle.recover_plan.specs.Stages.{Stands, behind_journal, behind_write, steps_left}
use Rattle.recover_plan.specs.declared.replay.Going.{Going}
use Rattle.recover_plan.specs.declared.replay.Going.TheVariants as goings
use Rattle.recover_plan.specs.declared.replay.Replay.{Replay}
use Rattle.recover_plan.specs.declared.replay.Replay.TheVariants as stages
use Rattle.recover_plan.specs.laws.ClaimLaws.{all_get, claim_kept, claimed_some, claims_slot, due_replay, edit_at, edit_get, some_locks, swept_none}
use Rattle.recover_plan.specs.KnownTables.{KeepsTables}
use Rattle.recover_plan.specs.laws.KnownTableLaws.{tables_replayed}
use Rattle.recover_plan.specs.laws.NoteLaws.{IsOf, claimed_noting, claimed_sees}
use Rattle.recover_plan.specs.laws.StepLaws.{slots_same, slots_written}
use Rattle.recover_plan.specs.laws.StageLaws.{claim_on, ready_on, ready_still, replaying_on}
use Rattle.lock_store.specs.Calls.{AnyBlock}
use Rattle.recover_plan.specs.laws.StepLaws.{counter_kept, key_kept, key_looked, locks_same, shut_out}

module _ (v w : WorldView) (h of : ℕ) (dead : Key) (is : Consistent v.locks) (others : Others h v w) where
  -- a read and a write test nothing
  no_read : (kind : Kind) (block old new : List ℕ)
      → SwapsKind v.locks.geometry (kinds.Slot of) old new (Some (event (key_at v.locks h) (read_of v.locks kind) (Shows block))) → ⊥
  no_read kind block old new swaps = let no : read_of v.locks kind ≡ Tests swaps.0 old new = swaps.2.0 in absurd cc

  no_write : (kind : Kind) (block old new : List ℕ)
      → SwapsKind v.locks.geometry (kinds.Slot of) old new
      (Some (event (key_at v.locks h) (Writes (place_of v.locks.geometry kind) block) Done)) → ⊥
  no_write kind block old new swaps =
      let no : Writes (place_of v.locks.geometry kind) block ≡ Tests swaps.0 old new = swaps.2.0 in absurd cc

  -- a block that is no slot was read
  read_quiet : (command : Command) (watch : List (Option Look)) (k : ℕ) (stage : Replay) (going : Going) (kind : Kind) (block : List ℕ)
      → dead_of stage ≡ Some dead.0 → IsOf dead.0 going → HasKind v.locks.geometry kind → ((y : ℕ) → kind ≢ kinds.Slot y)
      → Did v.locks h (read_of v.locks kind) (Shows block) (host_at v.locks h) w.locks
      → QuietCall command h v w (event (key_at v.locks h) (read_of v.locks kind) (Shows block)) (StageNoted command h of watch k v stage)
      (GoingNoted command h of watch k w going)
  read_quiet command watch k stage going kind block at next has other did =
      quiet_call command v w h (read_of v.locks kind) (Shows block) (host_at v.locks h) _ _ did tt others
      (subst (λ (g : Geometry). OnImage w.locks.disk.state (IsValid g (counter_of w.locks))) (sym did.geometry)
      (valid_same v.locks.geometry v.locks.disk.state w.locks.disk.state did.acts.changes.1 (valid_now v is)))
      (both_same (told_of v.locks) (told_of w.locks) KeepsFiles (ap (λ (s : State). s.told) did.acts.changes.1) (λ image f. refl))
      (λ m turn run before. allowed_plain v.locks h m turn (read_of v.locks kind) (Shows block) tt)
      (claimed_noting command v w h of watch (read_of v.locks kind) (Shows block) did.geometry
      (λ memory remembers. remembered_same v.locks w.locks h memory (read_of v.locks kind) (Shows block) remembers tt did.mine) k dead.0
      stage going (λ x of_stage. sym at ∙ of_stage) next
      (λ claims tries. ap (λ (t : Tries). t.shown)
      (tried_read v.locks.geometry h command claims (key_at v.locks h) tries kind (Shows block) has other))
      (λ old new swaps two. absurd (no_read kind block old new swaps)))

  -- a block that is no slot and no lock was written
  written_quiet : (command : Command) (watch : List (Option Look)) (k : ℕ) (stage : Replay) (going : Going) (kind : Kind) (block : List ℕ)
      → dead_of stage ≡ Some dead.0 → IsOf dead.0 going → IsWritable v.locks.geometry kind
      → WritesBlock v.locks h kind block (host_at v.locks h) (Ok tt) w.locks → HasValidImage w → FilesStay v w
      → QuietCall command h v w (event (key_at v.locks h) (Writes (place_of v.locks.geometry kind) block) Done)
      (StageNoted command h of watch k v stage) (GoingNoted command h of watch k w going)
  written_quiet command watch k stage going kind block at next writable did valid files =
      let place = place_of v.locks.geometry kind in
      let plain : IsPlainPlace v.locks.geometry place = record { kind = kind; writable = writable; at = refl } in
      quiet_call command v w h (Writes place block) Done (host_at v.locks h) _ _ did tt others valid files
      (allowed_write command v w h kind block _ writable)
      (claimed_noting command v w h of watch (Writes place block) Done did.geometry
      (λ memory remembers. remembered_block_write v.locks w.locks h memory remembers kind block tt writable did) k dead.0
      stage going (λ x of_stage. sym at ∙ of_stage) next
      (λ claims tries. ap (λ (t : Tries). t.shown)
      (tried_plain v.locks.geometry h command claims (key_at v.locks h) tries place (ByWrite block) Done plain))
      (λ old new swaps two. absurd (no_write kind block old new swaps)))

  -- the journal was read
  pub journal_went : (entry : Option JournalRecord) (next : Replay) → HasClaim v h of dead.0 → Looks h v w
      → ReadsJournal v.locks h of (Ok entry) w.locks → Knows w h (DeadRecord of (entry_edits entry)) → next ≡ behind_journal dead entry
      → IfSome entry (λ r. 1 ≤ length r.edits) → Went h of v w (stages.Journal dead) (goings.More next)
  journal_went entry next claim looks did known is_next some =
      subst (λ (s : Replay). Went h of v w (stages.Journal dead) (goings.More s)) (sym is_next) (record {
        event = event (key_at v.locks h) (read_of v.locks (kinds.Journal of)) (Shows (journal_bytes (entry_key entry) (entry_edits entry)));
        shown = tt;
        stands = stands entry known some did.1;
        fewer = fewer entry did.1;
        unshown = λ taken none. absurd (claimed_some v h of dead.0 claim none);
        no_entry = λ old key swaps. no_read (kinds.Journal of) _ old _ swaps;
        key = ap key_of looks.memory;
        counter = counter_kept _ _ _ did.0.acts tt;
        given = λ x. looks.facts (Given x);
        tables = λ t p. looks.facts (TableIs t p);
        slots = slots_same v w of (ap (λ (s : State). s.told) looks.state);
        sees = λ there. claimed_sees w h of dead.0 (goings.More (behind_journal dead entry)) (of_dead entry);
        registered = λ there. key_looked v w h looks;
        locks = locks_same v w h looks.memory;
        ready = ready_still v w h of looks.geometry looks.memory looks.facts;
        quiet = λ command watch k recovers.
            read_quiet command watch k (stages.Journal dead) (goings.More (behind_journal dead entry)) (kinds.Journal of)
            (journal_bytes (entry_key entry) (entry_edits entry)) refl (of_dead entry) claim.base.below (λ y e. cc) did.0;
      })
    where
      now : HasClaim w h of dead.0
      now = claim_on v w h of looks.geometry looks.memory looks.facts dead.0 claim

      stands : (entry : Option JournalRecord) → Knows w h (DeadRecord of (entry_edits entry)) → IfSome entry (λ r. 1 ≤ length r.edits)
          → AreEdits v.locks.geometry (entry_edits entry) → Stands w h of (behind_journal dead entry)
      stands None known some edits = (
        record { claimed = now; empty = known; swept = swept_none w h of dead.0 now },
        some_locks v w is looks.geometry,
      )
      stands (Some r) known some edits = record {
        claimed = now;
        known = known;
        edits = subst (λ (g : Geometry). AreEdits g r.edits) (sym looks.geometry) edits;
        more = some;
        first = λ named. let e = edit_get r.edits 0 some in absurd (omega (arith, (named (edit_at r.edits 0) e).2));
        replayed = λ i one e lt. absurd (omega (arith, lt));
      }

      fewer : (entry : Option JournalRecord) → AreEdits v.locks.geometry (entry_edits entry)
          → steps_left v.locks.geometry (behind_journal dead entry) < steps_left v.locks.geometry (stages.Journal dead)
      fewer None edits = omega arith
      fewer (Some r) edits = omega (arith, edits.few)

      of_dead : (entry : Option JournalRecord) → IsOf dead.0 (goings.More (behind_journal dead entry))
      of_dead None = refl
      of_dead (Some r) = refl

  -- a table was read, and the edits are made in it
  pub read_went : (entry : JournalRecord) (k : ℕ) (which : Table) (table : Packing) (next : Replay)
      → IsReplaying v h of dead.0 entry.edits k → Looks h v w → HasTable v.locks.geometry which
      → ((e : Edit) → slice_get entry.edits k ≡ Some e → which ≡ table_of e.field) → ReadsTable v.locks h which (Ok table) w.locks
      → KnowsDead v w h which table → next ≡ stages.Write dead entry k (made which entry.edits table)
      → Went h of v w (stages.Read dead entry k) (goings.More next)
  read_went entry k which table next replaying looks has at did dead_known is_next =
      subst (λ (s : Replay). Went h of v w (stages.Read dead entry k) (goings.More s)) (sym is_next) (record {
        event = event (key_at v.locks h) (read_of v.locks (kinds.Table which)) (Shows (packed_bytes 4 table));
        shown = tt;
        stands = (
          replaying_on v w h of looks.geometry looks.memory looks.facts dead.0 entry.edits k replaying,
          λ e here. due e here (at e here),
        );
        fewer = omega arith;
        unshown = λ taken none. absurd (claimed_some v h of dead.0 replaying.claimed none);
        no_entry = λ old key swaps. no_read (kinds.Table which) _ old _ swaps;
        key = ap key_of looks.memory;
        counter = counter_kept _ _ _ did.0.acts tt;
        given = λ x. looks.facts (Given x);
        tables = λ t p. looks.facts (TableIs t p);
        slots = slots_same v w of (ap (λ (s : State). s.told) looks.state);
        sees = λ there. tt;
        registered = λ there. key_looked v w h looks;
        locks = locks_same v w h looks.memory;
        ready = ready_still v w h of looks.geometry looks.memory looks.facts;
        quiet = λ command watch n recovers.
            read_quiet command watch n (stages.Read dead entry k) (goings.More (stages.Write dead entry k (made which entry.edits table)))
            (kinds.Table which)
            (packed_bytes 4 table) refl refl has (λ y e. cc) did.0;
      })
    where
      due : (e : Edit) → slice_get entry.edits k ≡ Some e → which ≡ table_of e.field
          → IsDue w h of entry.edits e (made which entry.edits table)
      due e here of_table = record {
        before = table;
        packing = subst (λ (t : Table). IsPackingOf w.locks.geometry t table) of_table
            (subst (λ (g : Geometry). IsPackingOf g which table) (sym looks.geometry) did.1);
        table = dead_known of entry.edits e.field replaying.known
            (all_get (IsEdit v.locks.geometry) entry.edits k e replaying.edits.each here).0
            (touches-at entry.edits k e here) (sym of_table);
        made_is = ap (λ (t : Table). made t entry.edits table) of_table;
      }

  -- it was written
  module _ (es : List Edit) (k next : ℕ) (which : Table) (kept : Packing) (replaying : IsReplaying v h of dead.0 es k)
      (at : (e : Edit) → slice_get es k ≡ Some e → which ≡ table_of e.field) (due : IsDueAt v h of es k kept)
      (wrote : Wrote h (kinds.Table which) (packed_bytes 4 kept) [] None v w) (known : KnowsDead v w h which kept)
      (named : IsNextEdit es k next) where
    -- the edits of this table are written, and those of the others still
    here : (e : Edit) → touches es e.field ≡ true → table_of e.field ≡ which → IsReplayed w h of es e
    here e touched same =
        let edit = edit_get es k replaying.more in
        replayed_made v w h of which kept
        (due_replay v h of es (edit_at es k) which kept replaying.known (at (edit_at es k) edit) (due (edit_at es k) edit)) e is.geometry
        wrote.geometry replaying.edits.each known touched same

    behind : (i : ℕ) (one e : Edit) → i < k + 1 → slice_get es i ≡ Some one → touches es e.field ≡ true
        → table_of e.field ≡ table_of one.field → IsReplayed w h of es e
    behind i one e lt there touched same = elim (cases_Table (table_of e.field) which) [
      | inl now ↦ here e touched now
      | inr other ↦ elim (cases_eq i k) [
        | inl last ↦ absurd (other (same ∙ sym (at one (sym (ap (slice_get es) last) ∙ there))))
        | inr apart ↦
            replayed_stays v w h of which (packed_bytes 4 kept) [] None es e wrote other
            (replaying.replayed i one e (omega (arith, lt, apart)) there touched same)
      ]
    ]

    all_before : (n : ℕ) → n ≤ next → AreReplayed w h of es n
    all_before zero most i one e lt there touched same = absurd (omega (arith, lt))
    all_before (suc n) most i one e lt there touched same = elim (cases_lt i n) [
      | inl before ↦ all_before n (omega (arith, most)) i one e before there touched same
      | inr last ↦ elim (cases_lt k i) [
        | inl later ↦
            let earlier = named.named i later (omega (arith, lt, most)) one there in
            all_before n (omega (arith, most)) earlier.0 earlier.1 e (omega (arith, earlier.2, lt)) earlier.3 touched (same ∙ earlier.4)
        | inr first ↦ behind i one e (omega (arith, first)) there touched same
      ]
    ]

    now : HasClaim w h of dead.0
    now = claim_kept v w h of dead.0 wrote.geometry wrote.memory replaying.claimed

    known_still : Knows w h (DeadRecord of es)
    known_still = wrote.facts (DeadRecord of es) (λ e. cc) replaying.known

    pub more_stands : next < length es → IsReplaying w h of dead.0 es next
    more_stands more = record {
      claimed = now;
      known = known_still;
      edits = subst (λ (g : Geometry). AreEdits g es) (sym wrote.geometry) replaying.edits;
      more = more;
      first = named.first more;
      replayed = all_before next (omega arith);
    }

    pub last_stands : length es ≤ next → IsAllReplayed w h of dead.0
    last_stands last = record {
      claimed = now;
      edits = es;
      known = known_still;
      each = λ i d lt.
          let there = slice_get-get_or es i d lt in
          all_before next (omega arith) i (slice_index_or es i d) (slice_index_or es i d) (omega (arith, lt, last)) there
          (touches-at es i (slice_index_or es i d) there) refl;
    }

  record_still : (kind : Kind) (block : List ℕ) → kinds.Journal h ≢ kind → Wrote h kind block [] None v w → IsReady v h → IsReady w h
  record_still kind block other wrote =
      ready_on v w h of wrote.geometry (ap (λ (m : HostState). m.joined) wrote.memory)
      (λ r. ap (λ (m : HostState). holds m r) wrote.memory) (wrote.facts (RecordIs []) other)

  pub write_went : (entry : JournalRecord) (k next : ℕ) (which : Table) (kept : Packing) (stage : Replay)
      → IsReplaying v h of dead.0 entry.edits k → HasTable v.locks.geometry which
      → ((e : Edit) → slice_get entry.edits k ≡ Some e → which ≡ table_of e.field) → IsDueAt v h of entry.edits k kept
      → Wrote h (kinds.Table which) (packed_bytes 4 kept) [] None v w → KnowsDead v w h which kept → IsNextEdit entry.edits k next
      → WritesBlock v.locks h (kinds.Table which) (packed_bytes 4 kept) (host_at v.locks h) (Ok tt) w.locks → HasValidImage w
      → FilesStay v w → stage ≡ behind_write dead entry next
      → Went h of v w (stages.Write dead entry k kept) (goings.More stage)
  write_went entry k next which kept stage replaying has at due wrote known named did valid files is_next =
      subst (λ (s : Replay). Went h of v w (stages.Write dead entry k kept) (goings.More s)) (sym is_next)
      (elim (cases_lt next (length entry.edits)) [
        | inl more ↦
            let reads : behind_write dead entry next ≡ stages.Read dead entry next = rw (lt-ltb next (length entry.edits) more) refl in
            went (behind_write dead entry next) (subst (λ (s : Replay). IsOf dead.0 (goings.More s)) (sym reads) refl)
            (subst (λ (s : Replay). Stands w h of s) (sym reads)
            (more_stands entry.edits k next which kept replaying at due wrote known named more))
            (subst (λ (s : Replay). steps_left v.locks.geometry s < steps_left v.locks.geometry (stages.Write dead entry k kept))
            (sym reads)
            (omega (arith, named.later, more)))
        | inr last ↦
            let clears : behind_write dead entry next ≡ stages.Clear dead = rw (le-ltb next (length entry.edits) last) refl in
            went (behind_write dead entry next) (subst (λ (s : Replay). IsOf dead.0 (goings.More s)) (sym clears) refl)
            (subst (λ (s : Replay). Stands w h of s) (sym clears)
            (last_stands entry.edits k next which kept replaying at due wrote known named last))
            (subst (λ (s : Replay). steps_left v.locks.geometry s < steps_left v.locks.geometry (stages.Write dead entry k kept))
            (sym clears)
            (omega (arith, replaying.more)))
      ])
    where
      tables : KeepsTables h v w
      tables =
          let first = edit_get entry.edits k replaying.more in
          let e = edit_at entry.edits k in
          tables_replayed v w h of entry.edits e which (packed_bytes 4 kept) is (claims_slot v h of dead.0 replaying.claimed)
          replaying.known (touches-at entry.edits k e first) (sym (at e first)) wrote

      went : (s : Replay) → IsOf dead.0 (goings.More s) → Stands w h of s
          → steps_left v.locks.geometry s < steps_left v.locks.geometry (stages.Write dead entry k kept)
          → Went h of v w (stages.Write dead entry k kept) (goings.More s)
      went s of_dead stands fewer = record {
        event = event (key_at v.locks h) (Writes (place_of v.locks.geometry (kinds.Table which)) (packed_bytes 4 kept)) Done;
        shown = tt;
        stands = stands;
        fewer = fewer;
        unshown = λ taken none. absurd (claimed_some v h of dead.0 replaying.claimed none);
        no_entry = λ old key swaps. no_write (kinds.Table which) _ old _ swaps;
        key = ap key_of wrote.memory;
        counter = counter_kept _ _ _ did.acts tt;
        given = λ x. wrote.facts (Given x) tt;
        tables = tables;
        slots = slots_written v w of (kinds.Table which) (packed_bytes 4 kept) has (λ y ne is. cc) did.acts.changes;
        sees = λ there. claimed_sees w h of dead.0 (goings.More s) of_dead;
        registered = λ there. key_kept v w h (ap key_of wrote.memory) wrote.keys wrote.registered;
        locks = locks_same v w h wrote.memory;
        ready = record_still (kinds.Table which) (packed_bytes 4 kept) (λ e. cc) wrote;
        quiet = λ command watch n recovers.
            written_quiet command watch n (stages.Write dead entry k kept) (goings.More s) (kinds.Table which) (packed_bytes 4 kept) refl
            of_dead has did valid files;
      }

  -- the journal was cleared

  pub clear_went : IsAllReplayed v h of dead.0 → Wrote h (kinds.Journal of) (journal_bytes 0 []) [] None v w
      → Knows w h (DeadRecord of [])
      → WritesBlock v.locks h (kinds.Journal of) (journal_bytes 0 []) (host_at v.locks h) (Ok tt) w.locks → HasValidImage w → FilesStay v w
      → Went h of v w (stages.Clear dead) (goings.More (stages.Sweep dead 0))
  clear_went all wrote empty did valid files = record {
    event = event (key_at v.locks h) (Writes (place_of v.locks.geometry (kinds.Journal of)) (journal_bytes 0 [])) Done;
    shown = tt;
    stands = (
      record { claimed = now; empty = empty; swept = swept_none w h of dead.0 now },
      some_locks v w is wrote.geometry,
    );
    fewer = omega arith;
    unshown = λ taken none. absurd (claimed_some v h of dead.0 all.claimed none);
    no_entry = λ old key swaps. no_write (kinds.Journal of) _ old _ swaps;
    key = ap key_of wrote.memory;
    counter = counter_kept _ _ _ did.acts tt;
    given = λ x. wrote.facts (Given x) tt;
    tables = λ t p. wrote.facts (TableIs t p) (λ e. cc);
    slots = slots_written v w of (kinds.Journal of) (journal_bytes 0 []) all.claimed.base.below (λ y ne is. cc) did.acts.changes;
    sees = λ there. tt;
    registered = λ there. key_kept v w h (ap key_of wrote.memory) wrote.keys wrote.registered;
    locks = locks_same v w h wrote.memory;
    ready = λ was. record_still (kinds.Journal of) (journal_bytes 0 [])
        (λ same. let own : h ≡ of = cc in true≢false (sym was.joined ∙ (all.claimed.base.apart (sym own)).0)) wrote was;
    quiet = λ command watch n recovers.
        written_quiet command watch n (stages.Clear dead) (goings.More (stages.Sweep dead 0)) (kinds.Journal of) (journal_bytes 0 []) refl
        refl all.claimed.base.below did valid files;
  }
    where
      now : HasClaim w h of dead.0
      now = claim_kept v w h of dead.0 wrote.geometry wrote.memory all.claimed

  -- a refused step cuts the command
  pub journal_cut : (why : StepNo) → ReadsJournal v.locks h of (Err why) w.locks → IsSound {T = Option JournalRecord} (Err why) v.locks
      → IsCutAt h of v w (stages.Journal dead) why
  journal_cut why refused sound = record {
    cuts = λ command watch k recovers.
        cut_weaker command v w h why _
        (cut_read v w h (kinds.Journal of) (FitsJournal v.locks.geometry) why others refused (λ at bad. sound at (ap Err bad)) command);
    shut = shut_out v w h (read_of v.locks (kinds.Journal of)) (place_of v.locks.geometry (kinds.Journal of)) (FitsJournal v.locks.geometry)
        why refused;
  }

  pub read_cut : (stage : Replay) (which : Table) (why : StepNo) → ReadsTable v.locks h which (Err why) w.locks
      → IsSound {T = Packing} (Err why) v.locks → IsCutAt h of v w stage why
  read_cut stage which why refused sound = record {
    cuts = λ command watch k recovers.
        cut_weaker command v w h why _
        (cut_read v w h (kinds.Table which) (FitsTable v.locks.geometry which) why others refused (λ at bad. sound at (ap Err bad)) command);
    shut = shut_out v w h (read_of v.locks (kinds.Table which)) (place_of v.locks.geometry (kinds.Table which))
        (FitsTable v.locks.geometry which) why refused;
  }

  pub written_cut : (stage : Replay) (kind : Kind) (block : List ℕ) (why : StepNo) → IsWritable v.locks.geometry kind
      → WritesBlock v.locks h kind block (host_at v.locks h) (Err why) w.locks → IsCutAt h of v w stage why
  written_cut stage kind block why writable refused = record {
    cuts = λ command watch k recovers. cut_weaker command v w h why _ (cut_write v w h kind block why writable others refused command);
    shut = shut_out v w h (Writes (place_of v.locks.geometry kind) block) (place_of v.locks.geometry kind) AnyBlock why refused;
  }
