-- A write hold: what is found in the lock of a file and in the slots of its readers, what is shown by it, and where it leads.
use Rattle.std.proofs.Common.{◌≡◌, ◌≢◌, ◌+◌, ◌-◌, ◌<◌, ◌==◌, ℕ, Bool, List, None, Option, Some, false, true, refl, ap, sym, subst, ◌∙◌, arith, inl, inr}
use Rattle.std.specs.Prelude.{Ok, if◌then◌else◌, slice_index}
use Rattle.std.specs.Option.{option_or}
use Rattle.std.proofs.lemmas.Bool.{cases_eq, eq-eqb, ne_eqb}
use Rattle.vol_base.specs.declared.block.Key.{Key}
use Rattle.vol_base.specs.declared.command.Command.{Command}
use Rattle.vol_layout.specs.declared.geometry.Geometry.{Geometry}
use Rattle.vol_layout.specs.declared.kind.Kind.TheVariants as kinds
use Rattle.vol_layout.specs.declared.kind.Resource.TheVariants.{File}
use Rattle.vol_layout.specs.Places.{place_of}
use Rattle.shared_disk.specs.Events.{Reply, Shows, event}
use Rattle.slot_lock_blocks.specs.declared.lock.LockWord.{LockWord}
use Rattle.slot_lock_blocks.specs.declared.lock.LockWord.TheVariants as words
use Rattle.slot_lock_blocks.specs.LockWords.{IsLockWord, lock_bytes, lock_readers}
use Rattle.lock_store.specs.declared.answers.Took.TheVariants as took
use Rattle.lock_store.specs.declared.host.HostState.{HostState}
use Rattle.lock_store.specs.Memories.{key_of, reads}
use Rattle.lock_store.specs.Views.{host_at, key_at}
use Rattle.disk_locks.specs.Calls.{TriesWrite, own_lock}
use Rattle.disk_locks.specs.Consistent.{Consistent}
use Rattle.disk_locks.specs.Freeing.{HaveEnded}
use Rattle.host_runs.specs.FileUses.{ToWrite, Try, file_used}
use Rattle.host_runs.specs.Notes.{Notes}
use Rattle.host_runs.specs.Tries.{Tries, file_shows, last_reader, not_own, tried, with_file}
use Rattle.host_notes.specs.Asked.{write_call}
use Rattle.host_notes.specs.laws.LockRights.{allowed_write}
use Rattle.host_notes.specs.laws.QuietMemories.{remembered_same}
use Rattle.host_notes.specs.laws.TryLaws.{tried_file_found}
use Rattle.host_notes.specs.lemmas.OwnKeys.{joined_key}
use Rattle.host_facts.specs.Looks.{Looks}
use Rattle.host_facts.specs.Others.{Others}
use Rattle.host_facts.specs.Views.{WorldView}
use Rattle.host_facts.specs.laws.LockFacts.{hold_found_law}
use Rattle.host_facts.specs.laws.ToldLaws.{sure_all}
use Rattle.plan_parts.specs.Holds.{AreChecked, HasMet, HasMetReaders, IsAtWrite, IsChecking, IsOutside, IsWriteTry, NotedWrite, ReadersAre, TakesWrite, WritesFile, alone, alone_word, calls_left, holder_of, write_tries}
use Rattle.plan_parts.specs.OtherReaders.{IsOther, lowest_in}
use Rattle.plan_parts.specs.QuietCalls.{Allows, Noted, QuietCall, shown_of}
use Rattle.plan_parts.specs.declared.outcome.Outcome.{Outcome}
use Rattle.plan_parts.specs.declared.outcome.Outcome.TheVariants as outcomes
use Rattle.plan_parts.specs.declared.take_write.TakeWrite.{TakeWrite}
use Rattle.plan_parts.specs.declared.take_write.TakeWrite.TheVariants as writes
use Rattle.plan_parts.specs.declared.taking.Taking.{Taking}
use Rattle.plan_parts.specs.declared.taking.Taking.TheVariants as taking
use Rattle.plan_parts.specs.laws.HoldEnded.{all_ended, ended_last, found_checked, next_checked, readers_last, sure_on}
use Rattle.plan_parts.specs.laws.HoldNotes.{IsLookOutcome, files_in, found_some, not_own_key, quiet_try, shown_tested, tried_from, word_shows}
use Rattle.plan_parts.specs.laws.HoldReads.{MayBeFound, found_write, open_of, outside_on}
use Rattle.plan_parts.specs.laws.TakenLaws.{locks_else}
use Rattle.plan_parts.specs.laws.HoldWords.{alone_is, holder_says, lowest_is, lowest_says, lowest_unread, none_lowest}

-- where nothing is held and no other key is, nobody's key is to have ended
free_ended : (v : WorldView) (h : ℕ) (word : LockWord) → ((y : ℕ) → IsOther (key_at v.locks h) (slice_index (lock_readers word) y) → ⊥)
    → HaveEnded v.locks h word
free_ended v h word none y some apart = absurd (none y (some, apart))

-- the call of a try may be made
pub hold_allowed : (v : WorldView) (h f : ℕ) → Consistent v.locks → IsOutside v h f → (from : LockWord) (tries : ℕ) (command : Command)
    → WritesFile f command → (reply : Reply)
    → Allows command h v (event (key_at v.locks h) (write_call v.locks h f from) reply) (NotedWrite command h v (writes.Try from tries))
hold_allowed v h f c outside from tries command on reply m turn of before =
    allowed_write v.locks h m turn c f from reply outside.joined outside.file (ap file_used of ∙ on.0)
    (tried_from m.old (write_tries (writes.Try from tries) before.0) tries from before.1.tries_are refl)

-- nothing is shown by none, and nothing behind the first try
none_either : (b : Bool) → (let o : Option ℕ = if b then None else None in o) ≡ None
none_either true = refl
none_either false = refl

first_shows : (tries : ℕ) (lowest : Option ℕ) → tries ≡ 0 → (if tries == 0 then None else lowest) ≡ None
first_shows tries lowest first = rw (eq-eqb tries 0 first) refl

-- the tries of a step that goes on to readers
pub checking_tries : (own hosts : ℕ) (readers : List ℕ) (from : ℕ) (u : TakeWrite) (reader : Option ℕ) → IsChecking own hosts readers from u
    → write_tries u reader ≡ record { count = 1; found = Some (lock_bytes (words.Read readers)); reader = reader; shown = None }
checking_tries own hosts readers from (writes.Check same at) reader is =
    ap (λ (xs : List ℕ). write_tries (writes.Check xs at) reader) is.0
checking_tries own hosts readers from (writes.Try next tries) reader is =
    ap (λ (n : ℕ). write_tries (writes.Try next n) reader) is.1 ∙ ap (λ (x : LockWord). write_tries (writes.Try x 1) reader) is.0

-- and where it stands
pub checking_at : (v w : WorldView) (h f : ℕ) (readers : List ℕ) (from : ℕ) (u : TakeWrite) → Consistent v.locks
    → IsLockWord (words.Read readers) → Looks h v w → Others h v w → AreChecked v.locks h readers from
    → IsChecking (key_at v.locks h) v.locks.geometry.hosts readers from u → IsAtWrite w h f u
checking_at v w h f readers from (writes.Check same at) c fits looks others checked is =
    subst (λ (xs : List ℕ). IsAtWrite w h f (writes.Check xs at)) (sym is.0) (record {
      word = fits;
      below = subst (λ (g : Geometry). at < g.hosts) (sym looks.geometry) is.1.below;
      other = subst (λ (n : ℕ). IsOther n (slice_index readers at)) (sym (ap key_of looks.memory)) is.1.other;
      checked = sure_on v.locks w.locks h (λ image. ReadersAre v.locks h readers at) (λ image. ReadersAre w.locks h readers at) looks.state
          looks.memory (λ image are. readers_last v.locks w.locks h readers at others.locks.lasts looks.memory are)
          (next_checked v.locks h readers c fits from v.locks.geometry.hosts at is.1 checked);
    })
checking_at v w h f readers from (writes.Try next tries) c fits looks others checked is =
    let one = is.1 in
    subst (λ (x : LockWord). IsWriteTry w h f x tries) (sym is.0) (record {
      word = fits;
      unheld = tt;
      few = omega (arith, one);
      ended = sure_on v.locks w.locks h (λ image. HaveEnded v.locks h (words.Read readers)) (λ image. HaveEnded w.locks h
          (words.Read readers))
          looks.state looks.memory (λ image ended. ended_last v.locks w.locks h (words.Read readers) others.locks.lasts looks.memory ended)
          (all_ended v.locks h readers c fits from is.2 checked);
      hoped = λ other. absurd (other one);
    })

-- it leaves fewer calls
pub checking_left : (own hosts : ℕ) (readers : List ℕ) (from : ℕ) (u : TakeWrite) → IsChecking own hosts readers from u
    → calls_left hosts u < 3 + (hosts - from)
checking_left own hosts readers from (writes.Check same at) is =
    let later = is.1.later in let below = is.1.below in omega (arith, later, below)
checking_left own hosts readers from (writes.Try next tries) is =
    subst (λ (n : ℕ). calls_left hosts (writes.Try next n) < 3 + (hosts - from)) (sym is.1) (omega arith)

module _ (v w : WorldView) (h f : ℕ) (from : LockWord) (tries : ℕ) (word : LockWord) (c : Consistent v.locks) (later : Consistent w.locks)
    (others : Others h v w) (same : w.standing ≡ v.standing) (outside : IsOutside v h f) (is : IsWriteTry v h f from tries)
    (did : TriesWrite v.locks h f from (Ok (took.Found word)) w.locks) where
  abbrev own : ℕ
  own = key_at v.locks h

  abbrev hosts : ℕ
  hosts = v.locks.geometry.hosts

  abbrev stage : TakeWrite
  stage = writes.Try from tries

  abbrev block : List ℕ
  block = lock_bytes word

  pub looks : Looks h v w
  looks = subst (λ (x : WorldView). Looks h v x) (sym (locks_else v w same)) (hold_found_law v h w.locks c others.locks f from word did)

  key_is : own ≢ 0
  key_is = (joined_key v.locks h c outside.joined).some

  pub may : MayBeFound own h (reads (host_at v.locks h) (File f)) word
  may = found_write h f (host_at v.locks h) key_is word did.2

  -- the call, by what the word shows
  asked : (after : Outcome) (After : Notes → Type 0) (command : Command) → WritesFile f command → IsLookOutcome after
      → ((reader : Option ℕ) → not_own own (file_shows ToWrite own (write_tries stage reader) block) ≡ shown_of after)
      → ((n : Notes) (reader : Option ℕ) → n.tries ≡ with_file (Some ToWrite) own block (write_tries stage reader)
      → Noted command h w after n → After n)
      → QuietCall command h v w (event own (write_call v.locks h f from) (Shows block)) (NotedWrite command h v stage) After
  asked after After command on ways shows comes =
      quiet_try command v w h (kinds.Lock (File f)) outside.file (λ r e. cc) (write_call v.locks h f from) (Shows block)
      (shown_tested (place_of v.locks.geometry (kinds.Lock (File f))) (lock_bytes from) (lock_bytes (own_lock v.locks h)) (Shows block))
      (host_at v.locks h) after _ _ ways did.0 tt others later (files_in v w did.0.acts.changes.2)
      (hold_allowed v h f c outside from tries command on (Shows block))
      (λ memory noted. remembered_same v.locks w.locks h memory (write_call v.locks h f from) (Shows block) noted tt did.0.mine)
      (λ n before. (
        before.1.noted,
        ap (λ (x : Tries). x.shown) (tried_is n before) ∙ word_shows ToWrite own block (write_tries stage before.0) refl ∙ shows before.0,
      ))
      (λ n before noted. comes _ before.0 (tried_is n before) noted)
    where
      tried_is : (n : Notes) (before : NotedWrite command h v stage n)
          → tried v.locks.geometry h command n.memory.claims (event own (write_call v.locks h f from) (Shows block)) n.tries
          ≡ with_file (Some ToWrite) own block (write_tries stage before.0)
      tried_is n before =
          tried_file_found v.locks.geometry h command n.memory.claims own n.tries f (lock_bytes from) (lock_bytes
          (own_lock v.locks h)) block
          outside.file
          ∙ ap (λ (o : Option Try). with_file o own block n.tries) on.1
          ∙ ap (λ (x : Tries). with_file (Some ToWrite) own block x) before.1.tries_are

  -- what the word shows
  pub shows_is : (reader : Option ℕ) → file_shows ToWrite own (write_tries stage reader) block
      ≡ option_or (holder_of word) (if tries == 0 then None else lowest_in own (lock_readers word))
  shows_is reader = rw (holder_says word did.1) (rw (lowest_says own word did.1) refl)

  -- the tries of a step that goes on
  went_tries : (u : TakeWrite) (reader : Option ℕ)
      → ((r : Option ℕ) → write_tries u r ≡ record { count = tries + 1; found = Some block; reader = r; shown = None })
      → not_own own (file_shows ToWrite own (write_tries stage reader) block) ≡ None
      → with_file (Some ToWrite) own block (write_tries stage reader) ≡ write_tries u (last_reader own (write_tries stage reader) block)
  went_tries u reader are none =
      let r = last_reader own (write_tries stage reader) block in
      ap (λ (o : Option ℕ). let x : Tries = record { count = tries + 1; found = Some block; reader = r; shown = o } in x) none ∙ sym (are r)

  pub more : (u : TakeWrite) → ((r : Option ℕ)
      → write_tries u r ≡ record { count = tries + 1; found = Some block; reader = r; shown = None })
      → ((reader : Option ℕ) → not_own own (file_shows ToWrite own (write_tries stage reader) block) ≡ None)
      → calls_left hosts u < calls_left hosts stage → IsAtWrite w h f u → TakesWrite h f v w stage (taking.More u)
  more u are none less at = (
    less,
    record {
      looks = looks;
      stands = record { outside = outside_on v w h f looks.memory looks.geometry outside; at = at };
      asked = record {
        event = event own (write_call v.locks h f from) (Shows block);
        quiet = λ command on. asked outcomes.Open (λ n. NotedWrite command h w u n) command on tt none
            (λ n reader tries_are noted. (
              last_reader own (write_tries stage reader) block,
              record { noted = noted; tries_are = tries_are ∙ went_tries u reader are (none reader) },
            ));
      };
    },
  )

  pub busy : (key : Key) → ((reader : Option ℕ) → file_shows ToWrite own (write_tries stage reader) block ≡ Some key.0) → key.0 ≢ own
      → TakesWrite h f v w stage (taking.Busy key)
  busy key shows other = record {
    looks = looks;
    asked = record {
      event = event own (write_call v.locks h f from) (Shows block);
      quiet = λ command on. asked (outcomes.Busy key) (λ n. Noted command h w (outcomes.Busy key) n) command on tt
          (λ reader. ap (not_own own) (shows reader) ∙ not_own_key own key.0 other) (λ n reader tries_are noted. noted);
    };
  }

  -- a word with no other key: it is found by the second try only, and tried from
  hoped_is : holder_of word ≡ None → lowest_in own (lock_readers word) ≡ None → word ≡ alone_word v.locks h f
  hoped_is held none =
      let key = joined_key v.locks h c outside.joined in
      alone_is word (reads (host_at v.locks h) (File f)) h own did.1 held key.of key.small (none_lowest own
      (lock_readers word) none) may.free
      may.among

  second : holder_of word ≡ None → lowest_in own (lock_readers word) ≡ None → tries ≡ 1
  second held none = elim (cases_eq tries 1) [
    | inl one ↦ one
    | inr other ↦ absurd (did.0.acts.changes.1 (ap lock_bytes (hoped_is held none ∙ sym (is.hoped other))))
  ]

  shows_none : holder_of word ≡ None → lowest_in own (lock_readers word) ≡ None → (reader : Option ℕ)
      → file_shows ToWrite own (write_tries stage reader) block ≡ None
  shows_none held none reader =
      shows_is reader
      ∙ ap (λ (o : Option ℕ). option_or o (if tries == 0 then None else lowest_in own (lock_readers word))) held
      ∙ ap (λ (o : Option ℕ). if tries == 0 then None else o) none ∙ none_either (tries == 0)

  pub last_try : holder_of word ≡ None → lowest_in own (lock_readers word) ≡ None
      → TakesWrite h f v w stage (taking.More (writes.Try word (tries + 1)))
  last_try held none =
      let one = second held none in
      let nobody_else = none_lowest own (lock_readers word) none in
      more (writes.Try word (tries + 1))
      (λ r. ap (λ (o : Option (List ℕ)). let x : Tries = record { count = tries + 1; found = o; reader = r; shown = None } in x)
      (found_some (tries + 1) word (λ zero_. absurd (omega (arith, zero_)))))
      (λ reader. ap (not_own own) (shows_none held none reader))
      (subst (λ (n : ℕ). calls_left hosts (writes.Try word (n + 1)) < calls_left hosts (writes.Try from n)) (sym one) (omega arith))
      (record {
        word = did.1;
        unheld = open_of word held;
        few = omega (arith, one);
        ended = sure_on v.locks w.locks h (λ image. HaveEnded v.locks h word) (λ image. HaveEnded w.locks h word) looks.state looks.memory
            (λ image ended. ended_last v.locks w.locks h word others.locks.lasts looks.memory ended)
            (sure_all v.locks h (λ image. HaveEnded v.locks h word) (λ image. free_ended v h word nobody_else));
        hoped = λ other. hoped_is held none ∙ ap (λ (m : HostState). alone (reads m (File f)) h (key_of m)) (sym looks.memory);
      })

-- what a try leads to that found another word
module _ (v w : WorldView) (h f : ℕ) (from : LockWord) (tries : ℕ) (c : Consistent v.locks) (later : Consistent w.locks)
    (others : Others h v w) (same : w.standing ≡ v.standing) (outside : IsOutside v h f) (is : IsWriteTry v h f from tries) where
  read_met : (readers : List ℕ) (result : Taking TakeWrite)
      → TriesWrite v.locks h f from (Ok (took.Found (words.Read readers))) w.locks
      → HasMetReaders (key_at v.locks h) v.locks.geometry.hosts tries readers result → TakesWrite h f v w (writes.Try from tries) result
  read_met readers taking.Taken did met = absurd met
  read_met readers (taking.More u) did (inl (first, checking)) =
      let hosts = v.locks.geometry.hosts in
      let fewer = checking_left (key_at v.locks h) hosts readers 0 u checking in
      let left : calls_left hosts u < calls_left hosts (writes.Try from 0) = omega (arith, fewer) in
      more v w h f from tries (words.Read readers) c later others same outside is did u
      (λ r. checking_tries (key_at v.locks h) hosts readers 0 u r checking
      ∙ ap (λ (n : ℕ). let x : Tries = record { count = n; found = Some (lock_bytes (words.Read readers)); reader = r; shown = None } in x)
      (omega (arith, first)))
      (λ reader. ap (not_own (key_at v.locks h))
      (shows_is v w h f from tries (words.Read readers) c later others same outside is did reader
      ∙ first_shows tries (lowest_in (key_at v.locks h) readers) first))
      (subst (λ (n : ℕ). calls_left hosts u < calls_left hosts (writes.Try from n)) (sym first) left)
      (checking_at v w h f readers 0 u c did.1 (looks v w h f from tries (words.Read readers) c later others same outside is did) others
      (found_checked v.locks h readers c did.1 f outside.file did.0.acts.changes.0) checking)
  read_met readers (taking.More u) did (inr (other, next, none)) =
      subst (λ (x : TakeWrite). TakesWrite h f v w (writes.Try from tries) (taking.More x)) (sym next)
      (last_try v w h f from tries (words.Read readers) c later others same outside is did refl none)
  read_met readers (taking.Busy key) did (other, lowest) =
      busy v w h f from tries (words.Read readers) c later others same outside is did key
      (λ reader. shows_is v w h f from tries (words.Read readers) c later others same outside is did reader
      ∙ rw (ne_eqb tries 0 other) lowest)
      (lowest_is (key_at v.locks h) readers key.0 lowest).1

  pub write_met : (word : LockWord) (result : Taking TakeWrite) → TriesWrite v.locks h f from (Ok (took.Found word)) w.locks
      → HasMet (key_at v.locks h) v.locks.geometry.hosts tries word result → TakesWrite h f v w (writes.Try from tries) result
  write_met words.Free result did met =
      subst (λ (r : Taking TakeWrite). TakesWrite h f v w (writes.Try from tries) r) (sym met)
      (last_try v w h f from tries words.Free c later others same outside is did refl
      (sym (lowest_unread (key_at v.locks h) words.Free (inl refl))))
  write_met (words.Held key) result did met =
      subst (λ (r : Taking TakeWrite). TakesWrite h f v w (writes.Try from tries) r) (sym met)
      (busy v w h f from tries (words.Held key) c later others same outside is did key
      (λ reader. shows_is v w h f from tries (words.Held key) c later others same outside is did reader)
      ((may v w h f from tries (words.Held key) c later others same outside is did).holder key.0 refl))
  write_met (words.Read readers) result did met = read_met readers result did met
