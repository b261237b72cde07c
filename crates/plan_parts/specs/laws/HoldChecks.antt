-- A write hold: one that was taken, the slot of a reader that was read, a step that was refused, and stages over the calls of others.
use Rattle.std.proofs.Common.{◌≡◌, ◌≢◌, ◌+◌, ◌<◌, ℕ, List, Option, Some, refl, ap, sym, subst, ◌∙◌, arith}
use Rattle.std.specs.Prelude.{Err, Ok, slice_index}
use Rattle.vol_base.specs.declared.command.Command.{Command}
use Rattle.vol_layout.specs.declared.geometry.Geometry.{Geometry}
use Rattle.vol_layout.specs.declared.kind.Kind.TheVariants as kinds
use Rattle.vol_layout.specs.declared.kind.Resource.TheVariants.{File}
use Rattle.vol_layout.specs.Places.{place_of}
use Rattle.shared_disk.specs.Events.{Done, Reply, Shows, event}
use Rattle.slot_lock_blocks.specs.declared.lock.LockWord.{LockWord}
use Rattle.slot_lock_blocks.specs.declared.lock.LockWord.TheVariants as words
use Rattle.slot_lock_blocks.specs.declared.slot.Slot.{Slot}
use Rattle.slot_lock_blocks.specs.LockWords.{lock_bytes}
use Rattle.slot_lock_blocks.specs.Slots.{slot_bytes}
use Rattle.lock_store.specs.declared.answers.StepNo.{StepNo}
use Rattle.lock_store.specs.declared.answers.Took.{Took}
use Rattle.lock_store.specs.declared.answers.Took.TheVariants as took
use Rattle.lock_store.specs.declared.host.HostState.{HostState}
use Rattle.lock_store.specs.declared.purpose.Purpose.TheVariants as purposes
use Rattle.lock_store.specs.declared.purpose.SlotUse.TheVariants as uses
use Rattle.lock_store.specs.Events.{read_of}
use Rattle.lock_store.specs.Memories.{key_of, reads, writing}
use Rattle.lock_store.specs.SlotTries.{FitsSlot, ReadsSlot}
use Rattle.lock_store.specs.Tries.{FitsLock, trier}
use Rattle.lock_store.specs.Views.{host_at, key_at}
use Rattle.disk_locks.specs.Calls.{IsSound, TriesWrite, own_lock}
use Rattle.disk_locks.specs.Consistent.{Consistent}
use Rattle.disk_locks.specs.Freeing.{HaveEnded}
use Rattle.disk_locks.specs.laws.SureLaws.{sure_keeps}
use Rattle.host_runs.specs.Notes.{Notes}
use Rattle.host_runs.specs.Tries.{Tries, not_own, reader_shows, showing, tried}
use Rattle.host_notes.specs.Asked.{write_call}
use Rattle.host_notes.specs.laws.LockMemories.{remembered_write}
use Rattle.host_notes.specs.laws.OtherRights.{allowed_plain}
use Rattle.host_notes.specs.laws.SlotMemories.{remembered_look}
use Rattle.host_notes.specs.laws.TryLaws.{BySwap, tried_file, tried_reader}
use Rattle.host_facts.specs.LockResults.{Gains}
use Rattle.host_facts.specs.Looks.{Looks}
use Rattle.host_facts.specs.Others.{Others}
use Rattle.host_facts.specs.SlotResults.{HasSeen}
use Rattle.host_facts.specs.Views.{WorldView}
use Rattle.host_facts.specs.laws.FactLaws.{joined_key}
use Rattle.host_facts.specs.laws.LockFacts.{slot_read_law, wrote_hold_law}
use Rattle.plan_parts.specs.Cuts.{IsCutBy}
use Rattle.plan_parts.specs.Holds.{HasChecked, HasWrite, IsAtWrite, IsOutside, IsWriteCheck, IsWriteTaking, NotedWrite, ReadersAre, TakesWrite, WritesFile, alone, write_tries}
use Rattle.plan_parts.specs.OtherReaders.{IsOther}
use Rattle.plan_parts.specs.QuietCalls.{Allows, Noted, QuietCall, shown_of}
use Rattle.plan_parts.specs.declared.outcome.Outcome.{Outcome}
use Rattle.plan_parts.specs.declared.outcome.Outcome.TheVariants as outcomes
use Rattle.plan_parts.specs.declared.take_write.TakeWrite.{TakeWrite}
use Rattle.plan_parts.specs.declared.take_write.TakeWrite.TheVariants as writes
use Rattle.plan_parts.specs.declared.taking.Taking.{Taking}
use Rattle.plan_parts.specs.declared.taking.Taking.TheVariants as taking
use Rattle.plan_parts.specs.laws.CutCallLaws.{cut_of}
use Rattle.plan_parts.specs.laws.HoldEnded.{ended_last, one_checked, readers_last}
use Rattle.plan_parts.specs.laws.HoldNotes.{IsLookOutcome, files_in, not_own_key, quiet_try, shown_read, shown_tested}
use Rattle.plan_parts.specs.laws.HoldReads.{outside_on}
use Rattle.plan_parts.specs.laws.TakenLaws.{locks_else}
use Rattle.plan_parts.specs.laws.HoldWords.{slot_hidden, slot_shown}
use Rattle.plan_parts.specs.laws.HoldWrites.{checking_at, checking_left, checking_tries, hold_allowed}

module _ (v w : WorldView) (h f : ℕ) (c : Consistent v.locks) (others : Others h v w) (outside : IsOutside v h f) where
  abbrev own : ℕ
  own = key_at v.locks h

  look_allowed : (at : ℕ) (Before : Notes → Type 0) (command : Command) (reply : Reply)
      → Allows command h v (event own (read_of v.locks (kinds.Slot at)) reply) Before
  look_allowed at Before command reply m turn of before = allowed_plain v.locks h m turn (read_of v.locks (kinds.Slot at)) reply tt

  -- a refusal
  pub write_cut : (from : LockWord) (tries : ℕ) (why : StepNo) → TriesWrite v.locks h f from (Err why) w.locks
      → IsSound {T = Took} (Err why) v.locks → (command : Command) → WritesFile f command
      → IsCutBy command h v w why (NotedWrite command h v (writes.Try from tries))
  write_cut from tries why did sound command on =
      cut_of command v w h (write_call v.locks h f from) (place_of v.locks.geometry (kinds.Lock (File f))) refl others _
      (hold_allowed v h f c outside from tries command on) (FitsLock purposes.Write (trier h (host_at v.locks h) (File f))) why did
      (λ at e. sound at (ap Err e))

  pub check_cut : (readers : List ℕ) (at : ℕ) (why : StepNo) → ReadsSlot v.locks h at (Err why) w.locks
      → IsSound {T = Slot} (Err why) v.locks → (command : Command) → WritesFile f command
      → IsCutBy command h v w why (NotedWrite command h v (writes.Check readers at))
  check_cut readers at why did sound command on =
      cut_of command v w h (read_of v.locks (kinds.Slot at)) (place_of v.locks.geometry (kinds.Slot at)) refl others _
      (look_allowed at _ command) (FitsSlot uses.Look at (host_at v.locks h)) why did (λ place e. sound place (ap Err e))

  module _ (later : Consistent w.locks) (same : w.standing ≡ v.standing) where
    -- the file is held
    pub write_done : (from : LockWord) (tries : ℕ) → TriesWrite v.locks h f from (Ok took.Took) w.locks
        → HasWrite h f v w (writes.Try from tries)
    write_done from tries did =
        let law = wrote_hold_law v h w.locks c others.locks f from outside.file did in
        let gains : Gains h (File f) v w = subst (λ (x : WorldView). Gains h (File f) v x) (sym (locks_else v w same)) law.0 in record {
          gains = gains;
          held = law.1;
          unread = law.2;
          asked = record {
            event = event own (write_call v.locks h f from) Done;
            quiet = λ command on.
                quiet_try command v w h (kinds.Lock (File f)) outside.file (λ r e. cc) (write_call v.locks h f from) Done
                (shown_tested (place_of v.locks.geometry (kinds.Lock (File f))) (lock_bytes from) (lock_bytes (own_lock v.locks h)) Done)
                (writing f (host_at v.locks h)) outcomes.Open _ _ tt did tt others later gains.relocks.passes.files
                (hold_allowed v h f c outside from tries command on Done)
                (λ memory noted. remembered_write v.locks w.locks h memory noted f from c outside.joined outside.file did)
                (λ n before. (
                  before.1.noted,
                  ap (λ (x : Tries). x.shown) (tried_file v.locks.geometry h command n.memory.claims own n.tries f
                      (BySwap (lock_bytes from) (lock_bytes (own_lock v.locks h))) outside.file) ∙ before.1.noted.shown_is,
                ))
                (λ n before noted. noted);
          };
        }

    -- the slot of a reader was read
    module _ (readers : List ℕ) (at : ℕ) (slot : Slot) (is : IsWriteCheck v h readers at) (did : ReadsSlot v.locks h at (Ok slot) w.locks)
      where
        abbrev stage : TakeWrite
        stage = writes.Check readers at

        small : at < 16
        small = let below = is.below in let range = c.geometry.hosts.1 in omega (arith, range, below)

        looks : Looks h v w
        looks =
            let seen : HasSeen h slot v w = subst (λ (x : WorldView). HasSeen h slot v x) (sym (locks_else v w same))
            (slot_read_law v h w.locks c others.locks at slot is.below did) in seen.looks

        asked : (after : Outcome) (After : Notes → Type 0) (command : Command) → WritesFile f command → IsLookOutcome after
            → not_own own (reader_shows at (Some (lock_bytes (words.Read readers))) (slot_bytes slot)) ≡ shown_of after
            → ((n : Notes) (reader : Option ℕ)
            → n.tries ≡ showing own (reader_shows at (Some (lock_bytes (words.Read readers))) (slot_bytes slot)) (write_tries stage reader)
            → Noted command h w after n → After n)
            → QuietCall command h v w (event own (read_of v.locks (kinds.Slot at)) (Shows (slot_bytes slot)))
            (NotedWrite command h v stage) After
        asked after After command on ways shows comes =
            quiet_try command v w h (kinds.Slot at) is.below (λ r e. cc) (read_of v.locks (kinds.Slot at)) (Shows (slot_bytes slot))
            (shown_read (place_of v.locks.geometry (kinds.Slot at)) (Shows (slot_bytes slot)))
            (host_at v.locks h) after _ _ ways did.0 tt others
            later (files_in v w did.0.acts.changes.1) (look_allowed at _ command (Shows (slot_bytes slot)))
            (λ memory noted. remembered_look v.locks w.locks h memory noted at slot did)
            (λ n before. (before.1.noted, ap (λ (x : Tries). x.shown) (tried_is n before) ∙ shows))
            (λ n before noted. comes _ before.0 (tried_is n before) noted)
          where
            tried_is : (n : Notes) (before : NotedWrite command h v stage n)
                → tried v.locks.geometry h command n.memory.claims
                (event own (read_of v.locks (kinds.Slot at)) (Shows (slot_bytes slot))) n.tries
                ≡ showing own (reader_shows at (Some (lock_bytes (words.Read readers))) (slot_bytes slot)) (write_tries stage before.0)
            tried_is n before =
                tried_reader v.locks.geometry h command n.memory.claims own n.tries at (slot_bytes slot) is.below on.1
                ∙ ap (λ (x : Tries). showing own (reader_shows at x.found (slot_bytes slot)) x) before.1.tries_are

        pub check_gone : (result : Taking TakeWrite) → HasChecked own v.locks.geometry.hosts readers at slot result
            → TakesWrite h f v w stage result
        check_gone taking.Taken gone = absurd gone
        check_gone (taking.Busy key) gone =
            let shows = slot_shown slot did.1 readers is.word at small is.other.0 gone.0 in record {
              looks = looks;
              asked = record {
                event = event own (read_of v.locks (kinds.Slot at)) (Shows (slot_bytes slot));
                quiet = λ command on. asked (outcomes.Busy key) (λ n. Noted command h w (outcomes.Busy key) n) command on tt
                    (ap (not_own own) (shows ∙ ap (λ (k : ℕ). Some k) (sym gone.1))
                    ∙ not_own_key own key.0 (λ e. is.other.1 (sym gone.1 ∙ e))) (λ n reader tries_are noted. noted);
              };
            }
        check_gone (taking.More u) gone =
            let none = ap (not_own own) (slot_hidden slot did.1 readers is.word at small gone.0) in
            let hosts = v.locks.geometry.hosts in
            let fewer = checking_left own hosts readers (at + 1) u gone.1 in
            let below = is.below in (
              omega (arith, fewer, below),
              record {
                looks = looks;
                stands = record {
                  outside = outside_on v w h f looks.memory looks.geometry outside;
                  at = checking_at v w h f readers (at + 1) u c is.word looks others
                      (one_checked v.locks h readers c is.word at slot did.1 gone.0 did.0.acts.changes.0 is.checked) gone.1;
                };
                asked = record {
                  event = event own (read_of v.locks (kinds.Slot at)) (Shows (slot_bytes slot));
                  quiet = λ command on. asked outcomes.Open (λ n. NotedWrite command h w u n) command on tt none
                      (λ n reader tries_are noted. (
                        reader,
                        record {
                          noted = noted;
                          tries_are = tries_are
                              ∙ ap (λ (o : Option ℕ). let x : Tries = record (write_tries stage reader) { shown = o } in x) none
                              ∙ sym (checking_tries own hosts readers (at + 1) u reader gone.1);
                        },
                      ));
                };
              },
            )

-- each stage stands over the calls of other hosts
at_write_still : (v w : WorldView) (h f x : ℕ) (t : TakeWrite) → Consistent v.locks → Others x v w → h ≢ x → key_at v.locks h ≢ 0
    → IsAtWrite v h f t → IsAtWrite w h f t
at_write_still v w h f x (writes.Try from tries) c others apart some is =
    let memory = (others.locks.keeps h apart some).memory in record {
      word = is.word;
      unheld = is.unheld;
      few = is.few;
      ended = sure_keeps v.locks w.locks h x (λ image. HaveEnded v.locks h from)
          (λ image. HaveEnded w.locks h from) c others.locks apart some
          (λ i j agrees keeps ended. ended_last v.locks w.locks h from others.locks.lasts memory ended) is.ended;
      hoped = λ other. is.hoped other ∙ ap (λ (m : HostState). alone (reads m (File f)) h (key_of m)) (sym memory);
    }
at_write_still v w h f x (writes.Check readers at) c others apart some is =
    let memory = (others.locks.keeps h apart some).memory in record {
      word = is.word;
      below = subst (λ (g : Geometry). at < g.hosts) (sym others.locks.lasts.geometry) is.below;
      other = subst (λ (n : ℕ). IsOther n (slice_index readers at)) (sym (ap key_of memory)) is.other;
      checked = sure_keeps v.locks w.locks h x (λ image. ReadersAre v.locks h readers at) (λ image. ReadersAre w.locks h readers at) c
          others.locks apart some
          (λ i j agrees keeps are. readers_last v.locks w.locks h readers at others.locks.lasts memory are) is.checked;
    }

pub write_taking_still : (v w : WorldView) (h f x : ℕ) (t : TakeWrite) → Consistent v.locks → Others x v w → h ≢ x → IsWriteTaking v h f t
    → IsWriteTaking w h f t
write_taking_still v w h f x t c others apart is =
    let some = joined_key v.locks.geometry.hosts _ h (host_at v.locks h) (c.memories h) is.outside.joined in record {
      outside = outside_on v w h f (others.locks.keeps h apart some).memory others.locks.lasts.geometry is.outside;
      at = at_write_still v w h f x t c others apart some is.at;
    }
