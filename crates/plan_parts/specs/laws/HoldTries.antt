-- One step that takes a read hold, or gives one back.
use Rattle.plan_parts.specs.laws.TakenLaws.{locks_else}
use Rattle.std.proofs.Common.{◌≡◌, ◌≢◌, ◌<◌, ℕ, None, true, false, refl, ap, sym, subst, ◌∙◌}
use Rattle.std.specs.Prelude.{Err, IfSome, Ok, Some, slice_index}
use Rattle.vol_base.specs.declared.command.Command.{Command}
use Rattle.vol_layout.specs.declared.kind.Kind.TheVariants as kinds
use Rattle.vol_layout.specs.declared.kind.Resource.TheVariants.{File}
use Rattle.vol_layout.specs.Places.{place_of}
use Rattle.shared_disk.specs.Events.{Done, Reply, Shows, event}
use Rattle.slot_lock_blocks.specs.declared.lock.LockWord.{LockWord}
use Rattle.slot_lock_blocks.specs.declared.lock.LockWord.TheVariants as words
use Rattle.slot_lock_blocks.specs.LockWords.{lock_bytes, lock_readers}
use Rattle.lock_store.specs.declared.answers.StepNo.{StepNo}
use Rattle.lock_store.specs.declared.answers.Took.{Took}
use Rattle.lock_store.specs.declared.answers.Took.TheVariants as took
use Rattle.lock_store.specs.declared.host.HostState.{HostState}
use Rattle.lock_store.specs.declared.purpose.Purpose.TheVariants as purposes
use Rattle.lock_store.specs.Events.{swap_of}
use Rattle.lock_store.specs.Memories.{key_of, reads, with_read}
use Rattle.lock_store.specs.Tries.{FitsLock, MayFind, trier}
use Rattle.lock_store.specs.Views.{host_at, key_at}
use Rattle.disk_locks.specs.Calls.{IsSound, ReleasesRead, TriesRead, with_reader, without_reader}
use Rattle.disk_locks.specs.Consistent.{Consistent}
use Rattle.host_runs.specs.FileUses.{ToRead, ToRelease, file_used, try_of}
use Rattle.host_runs.specs.Notes.{Notes}
use Rattle.host_runs.specs.Tries.{Tries, tried}
use Rattle.host_notes.specs.Asked.{read_call, release_call}
use Rattle.host_notes.specs.laws.LockMemories.{remembered_read, remembered_release}
use Rattle.host_notes.specs.laws.LockRights.{allowed_read, allowed_release}
use Rattle.host_notes.specs.laws.TryLaws.{BySwap, tried_file}
use Rattle.host_facts.specs.LockResults.{Gains}
use Rattle.host_facts.specs.Looks.{Looks}
use Rattle.host_facts.specs.Others.{Others}
use Rattle.host_facts.specs.Relocks.{Relocks}
use Rattle.host_facts.specs.Views.{WorldView}
use Rattle.host_facts.specs.laws.FactLaws.{joined_key}
use Rattle.host_facts.specs.laws.LockFacts.{read_found_law, read_law, release_found_law, released_law}
use Rattle.plan_parts.specs.Cuts.{IsCutBy}
use Rattle.plan_parts.specs.Holds.{GivesBack, HasGoneOn, HasRead, HasReleased, IsReadTaking, IsReleasing, IsTrying, NotedTry, ReadsFile, ReleasesFile, TakesRead, alone, holder_of, tries_of}
use Rattle.plan_parts.specs.QuietCalls.{Allows}
use Rattle.plan_parts.specs.declared.outcome.Outcome.TheVariants as outcomes
use Rattle.plan_parts.specs.declared.read_try.ReadTry.{ReadTry}
use Rattle.plan_parts.specs.declared.taking.Taking.{Taking}
use Rattle.plan_parts.specs.declared.taking.Taking.TheVariants as taking
use Rattle.plan_parts.specs.laws.CutCallLaws.{cut_of}
use Rattle.plan_parts.specs.laws.HoldNotes.{quiet_try, shown_tested, tried_from}
use Rattle.plan_parts.specs.laws.HoldReads.{asked_busy, asked_more, found_read, found_release, outside_on, read_shows, release_shows, trying_on}

module _ (v w : WorldView) (h f : ℕ) (t : ReadTry) (c : Consistent v.locks) (others : Others h v w) where
  abbrev own : ℕ
  own = key_at v.locks h

  -- the call may be made
  pub read_allowed : (command : Command) → ReadsFile f command → IsReadTaking v h f t → (reply : Reply)
      → Allows command h v (event own (read_call v.locks h f t.from) reply) (NotedTry command h v t)
  read_allowed command on is reply m turn of before =
      allowed_read v.locks h m turn c f t.from reply is.trying.outside.joined is.trying.outside.file is.trying.word (ap file_used of ∙ on.0)
      (tried_from m.old (tries_of t) t.tries t.from before.tries_are refl)

  pub release_allowed : (command : Command) → ReleasesFile f command → IsReleasing v h f t → (reply : Reply)
      → Allows command h v (event own (release_call v.locks h f t.from) reply) (NotedTry command h v t)
  release_allowed command on is reply m turn of before =
      allowed_release v.locks h m turn c f t.from reply is.trying.outside.joined is.trying.outside.file is.trying.word (of ∙ on)
      (tried_from m.old (tries_of t) t.tries t.from before.tries_are refl)

  -- a refusal
  pub read_cut : (why : StepNo) → IsReadTaking v h f t → TriesRead v.locks h f t.from (Err why) w.locks → IsSound {T = Took}
      (Err why) v.locks
      → (command : Command) → ReadsFile f command → IsCutBy command h v w why (NotedTry command h v t)
  read_cut why is did sound command on =
      cut_of command v w h (read_call v.locks h f t.from) (place_of v.locks.geometry (kinds.Lock (File f))) refl others _
      (read_allowed command on is) (FitsLock purposes.Read (trier h (host_at v.locks h) (File f))) why did (λ at e. sound at (ap Err e))

  pub release_cut : (why : StepNo) → IsReleasing v h f t → ReleasesRead v.locks h f t.from (Err why) w.locks
      → IsSound {T = Took} (Err why) v.locks → (command : Command) → ReleasesFile f command
      → IsCutBy command h v w why (NotedTry command h v t)
  release_cut why is did sound command on =
      cut_of command v w h (release_call v.locks h f t.from) (place_of v.locks.geometry (kinds.Lock (File f))) refl others _
      (release_allowed command on is) (FitsLock purposes.Release (trier h (host_at v.locks h) (File f))) why did (λ at e. sound at
      (ap Err e))

  module _ (later : Consistent w.locks) (same : w.standing ≡ v.standing) where
    -- nothing is noted of the tries behind a lock that was changed
    changed_none : (command : Command) (to : LockWord) (n : Notes) → f < v.locks.geometry.files → NotedTry command h v t n
        → (tried v.locks.geometry h command n.memory.claims
        (event own (swap_of v.locks (kinds.Lock (File f)) (lock_bytes t.from) (lock_bytes to)) Done) n.tries).shown ≡ None
    changed_none command to n has before =
        ap (λ (x : Tries). x.shown)
        (tried_file v.locks.geometry h command n.memory.claims own n.tries f (BySwap (lock_bytes t.from) (lock_bytes to)) has)
        ∙ before.noted.shown_is

    -- the file is read
    pub read_done : IsReadTaking v h f t → TriesRead v.locks h f t.from (Ok took.Took) w.locks → HasRead h f v w t
    read_done is did =
        let has = is.trying.outside.file in
        let law = read_law v h w.locks c others.locks f t.from has did in
        let to = with_reader t.from h own in
        let gains : Gains h (File f) v w = subst (λ (x : WorldView). Gains h (File f) v x) (sym (locks_else v w same)) law.0 in record {
          gains = gains;
          reads_it = law.1;
          out = law.2 ∙ is.trying.outside.out;
          asked = record {
            event = event own (read_call v.locks h f t.from) Done;
            quiet = λ command on.
                quiet_try command v w h (kinds.Lock (File f)) has (λ r e. cc) (read_call v.locks h f t.from) Done
                (shown_tested (place_of v.locks.geometry (kinds.Lock (File f))) (lock_bytes t.from) (lock_bytes to) Done)
                (with_read f true (host_at v.locks h)) outcomes.Open _ _ tt did tt others later gains.relocks.passes.files
                (read_allowed command on is Done)
                (λ memory noted. remembered_read v.locks w.locks h memory noted f t.from c is.trying.outside.joined has
                is.trying.outside.out
                is.trying.word did)
                (λ n before. (before.noted, changed_none command to n has before)) (λ n before noted. noted);
          };
        }

    -- the file is read no more
    pub release_done : IsReleasing v h f t → ReleasesRead v.locks h f t.from (Ok took.Took) w.locks → HasReleased h f v w t
    release_done is did =
        let has = is.trying.outside.file in
        let law = released_law v h w.locks c others.locks f t.from has did in
        let to = without_reader t.from h in
        let relocks : Relocks h (File f) v w = subst (λ (x : WorldView). Relocks h (File f) v x) (sym
        (locks_else v w same)) law.0 in record {
          relocks = relocks;
          unread = law.1;
          out = law.2 ∙ is.trying.outside.out;
          asked = record {
            event = event own (release_call v.locks h f t.from) Done;
            quiet = λ command on.
                quiet_try command v w h (kinds.Lock (File f)) has (λ r e. cc) (release_call v.locks h f t.from) Done
                (shown_tested (place_of v.locks.geometry (kinds.Lock (File f))) (lock_bytes t.from) (lock_bytes to) Done)
                (with_read f false (host_at v.locks h)) outcomes.Open _ _ tt did tt others later relocks.passes.files
                (release_allowed command on is Done)
                (λ memory noted. remembered_release v.locks w.locks h memory noted f t.from c is.trying.outside.joined has is.trying.word
                did)
                (λ n before. (before.noted, changed_none command to n has before)) (λ n before noted. noted);
          };
        }

    -- another word was found
    module _ (word : LockWord) where
      some : (IsTrying v h f 2 t) → own ≢ 0
      some is = joined_key v.locks.geometry.hosts _ h (host_at v.locks h) (c.memories h) is.outside.joined

      pub read_gone : (result : Taking ReadTry) → IsReadTaking v h f t → TriesRead v.locks h f t.from (Ok (took.Found word)) w.locks
          → HasGoneOn own t 2 word result → TakesRead h f v w t result
      read_gone taking.Taken is did gone = absurd gone
      read_gone (taking.More u) is did gone =
          let looks : Looks h v w = subst (λ (x : WorldView). Looks h v x) (sym (locks_else v w same))
          (read_found_law v h w.locks c others.locks f t.from word did) in
          let may = found_read h f (host_at v.locks h) (some is.trying) word did.2 is.unread in
          let apart = λ (e : word ≡ t.from). did.0.acts.changes.1 (ap lock_bytes e) in (
            gone.3,
            record {
              looks = looks;
              stands = record {
                trying = trying_on v w h f 2 t word c is.trying did.1 apart may u looks gone;
                unread = ap (λ (m : HostState). reads m (File f)) looks.memory ∙ is.unread;
              };
              asked = record {
                event = event own (read_call v.locks h f t.from) (Shows (lock_bytes word));
                quiet = λ command on.
                    asked_more v w h f 2 t word c is.trying did.1 apart may
                    (with_reader t.from h own) ToRead command on.1 did.0 others later
                    (read_allowed command on is (Shows (lock_bytes word))) (read_shows own t word did.1) u gone;
              };
            },
          )
      read_gone (taking.Busy key) is did gone =
          let may = found_read h f (host_at v.locks h) (some is.trying) word did.2 is.unread in
          let apart = λ (e : word ≡ t.from). did.0.acts.changes.1 (ap lock_bytes e) in record {
            looks = subst (λ (x : WorldView). Looks h v x) (sym (locks_else v w same))
                (read_found_law v h w.locks c others.locks f t.from word did);
            asked = record {
              event = event own (read_call v.locks h f t.from) (Shows (lock_bytes word));
              quiet = λ command on.
                  asked_busy v w h f 2 t word c is.trying did.1 apart may (with_reader t.from h own) ToRead command on.1 did.0 others later
                  (read_allowed command on is (Shows (lock_bytes word))) (read_shows own t word did.1) key gone;
            };
          }

      unheld_read : (word : LockWord) → MayFind purposes.Release (trier h (host_at v.locks h) (File f)) word
          → (holder_of word ≡ None) × (slice_index (lock_readers word) h ≡ own)
      unheld_read words.Free may = absurd may
      unheld_read (words.Held key) may = absurd may
      unheld_read (words.Read readers) may = (refl, may)

      closes : (command : Command) → ReleasesFile f command → try_of command ≡ Some ToRelease
      closes command on = ap try_of on

      pub release_gone : (result : Taking ReadTry) → IsReleasing v h f t → ReleasesRead v.locks h f t.from (Ok (took.Found word)) w.locks
          → HasGoneOn own t 1 word result → GivesBack h f v w t result
      release_gone taking.Taken is did gone = absurd gone
      release_gone (taking.More u) is did gone =
          let looks : Looks h v w = subst (λ (x : WorldView). Looks h v x) (sym (locks_else v w same))
          (release_found_law v h w.locks c others.locks f t.from word did) in
          let key_some = joined_key v.locks.geometry.hosts _ h (host_at v.locks h) (c.memories h) is.trying.outside.joined in
          let may = found_release h f (host_at v.locks h) key_some word did.2 is.reads_it in
          let unheld = unheld_read word did.2 in
          let apart = λ (e : word ≡ t.from). did.0.acts.changes.1 (ap lock_bytes e) in (
            gone.3,
            record {
              looks = looks;
              stands = record {
                trying = trying_on v w h f 1 t word c is.trying did.1 apart may u looks gone;
                reads_it = ap (λ (m : HostState). reads m (File f)) looks.memory ∙ is.reads_it;
                among = ap (λ (x : LockWord). slice_index (lock_readers x) h) gone.2 ∙ unheld.1 ∙ sym (ap key_of looks.memory);
              };
              asked = record {
                event = event own (release_call v.locks h f t.from) (Shows (lock_bytes word));
                quiet = λ command on.
                    asked_more v w h f 1 t word c is.trying did.1 apart may (without_reader t.from h) ToRelease command
                    (closes command on) did.0
                    others later (release_allowed command on is (Shows (lock_bytes word))) (release_shows own t word did.1 unheld.0) u gone;
              };
            },
          )
      release_gone (taking.Busy key) is did gone =
          let key_some = joined_key v.locks.geometry.hosts _ h (host_at v.locks h) (c.memories h) is.trying.outside.joined in
          let may = found_release h f (host_at v.locks h) key_some word did.2 is.reads_it in
          let apart = λ (e : word ≡ t.from). did.0.acts.changes.1 (ap lock_bytes e) in record {
            looks = subst (λ (x : WorldView). Looks h v x) (sym (locks_else v w same))
                (release_found_law v h w.locks c others.locks f t.from word did);
            asked = record {
              event = event own (release_call v.locks h f t.from) (Shows (lock_bytes word));
              quiet = λ command on.
                  asked_busy v w h f 1 t word c is.trying did.1 apart may (without_reader t.from h) ToRelease command
                  (closes command on) did.0
                  others later (release_allowed command on is (Shows (lock_bytes word))) (release_shows own t word did.1
                  (unheld_read word did.2).0)
                  key gone;
            };
          }

-- the first stages stand, and each stage over the calls of other hosts
trying_still : (v w : WorldView) (h f x last : ℕ) (t : ReadTry) → Others x v w → h ≢ x → key_at v.locks h ≢ 0 → IsTrying v h f last t
    → IsTrying w h f last t
trying_still v w h f x last t others apart some is =
    let memory = (others.locks.keeps h apart some).memory in record {
      outside = outside_on v w h f memory others.locks.lasts.geometry is.outside;
      word = is.word;
      unheld = is.unheld;
      tries = is.tries;
      first = λ none. is.first none ∙ ap (λ (m : HostState). alone (reads m (File f)) h (key_of m)) (sym memory);
      met = is.met;
      other = subst (λ (n : ℕ). IfSome t.reader (λ key. key.0 ≢ n)) (sym (ap key_of memory)) is.other;
    }

pub read_taking_still : (v w : WorldView) (h f x : ℕ) (t : ReadTry) → Consistent v.locks → Others x v w → h ≢ x → IsReadTaking v h f t
    → IsReadTaking w h f t
read_taking_still v w h f x t c others apart is =
    let some = joined_key v.locks.geometry.hosts _ h (host_at v.locks h) (c.memories h) is.trying.outside.joined in record {
      trying = trying_still v w h f x 2 t others apart some is.trying;
      unread = ap (λ (m : HostState). reads m (File f)) (others.locks.keeps h apart some).memory ∙ is.unread;
    }

pub releasing_still : (v w : WorldView) (h f x : ℕ) (t : ReadTry) → Consistent v.locks → Others x v w → h ≢ x → IsReleasing v h f t
    → IsReleasing w h f t
releasing_still v w h f x t c others apart is =
    let some = joined_key v.locks.geometry.hosts _ h (host_at v.locks h) (c.memories h) is.trying.outside.joined in
    let memory = (others.locks.keeps h apart some).memory in record {
      trying = trying_still v w h f x 1 t others apart some is.trying;
      reads_it = ap (λ (m : HostState). reads m (File f)) memory ∙ is.reads_it;
      among = is.among ∙ sym (ap key_of memory);
    }
