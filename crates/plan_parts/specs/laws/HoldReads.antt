-- A read hold: what is found in the lock of a file, what is shown by it, and where it leads.
use Rattle.std.proofs.Common.{◌≡◌, ◌≢◌, ◌⊎◌, ◌<◌, ◌==◌, ℕ, Bool, List, None, Option, Some, false, true, refl, ap, sym, subst, ◌∙◌, arith, inl, inr}
use Rattle.std.specs.Prelude.{IfSome, IsSome, if◌then◌else◌, slice_index}
use Rattle.std.specs.Option.{option_or}
use Rattle.std.proofs.lemmas.Bool.{cases_eq, eq-eqb, ne_eqb}
use Rattle.vol_base.specs.declared.block.Key.{Key}
use Rattle.vol_base.specs.declared.command.Command.{Command}
use Rattle.vol_layout.specs.declared.geometry.Geometry.{Geometry}
use Rattle.vol_layout.specs.declared.kind.Kind.TheVariants as kinds
use Rattle.vol_layout.specs.declared.kind.Resource.TheVariants.{File}
use Rattle.vol_layout.specs.Places.{place_of}
use Rattle.shared_disk.specs.Events.{Shows, event}
use Rattle.slot_lock_blocks.specs.declared.lock.LockWord.{LockWord}
use Rattle.slot_lock_blocks.specs.declared.lock.LockWord.TheVariants as words
use Rattle.slot_lock_blocks.specs.LockWords.{IsLockWord, lock_bytes, lock_readers}
use Rattle.slot_lock_blocks.specs.laws.ReaderLaws.{slice_index-nobody}
use Rattle.lock_store.specs.declared.host.HostState.{HostState}
use Rattle.lock_store.specs.declared.purpose.Purpose.TheVariants as purposes
use Rattle.lock_store.specs.Events.{Did}
use Rattle.lock_store.specs.Memories.{holds, key_of, reads}
use Rattle.lock_store.specs.Tries.{MayFind, trier}
use Rattle.lock_store.specs.Views.{host_at, key_at}
use Rattle.disk_locks.specs.Consistent.{Consistent}
use Rattle.disk_locks.specs.Freeing.{IsOpen}
use Rattle.host_runs.specs.FileUses.{ToRead, ToRelease, Try, try_of}
use Rattle.host_runs.specs.Notes.{Notes}
use Rattle.host_runs.specs.Tries.{Tries, file_shows, not_own, tried, with_file}
use Rattle.host_runs.specs.lemmas.OrderlyPlaced.{some_same}
use Rattle.host_notes.specs.Asked.{lock_try}
use Rattle.host_notes.specs.laws.QuietMemories.{remembered_same}
use Rattle.host_notes.specs.laws.TryLaws.{tried_file_found}
use Rattle.host_notes.specs.lemmas.OwnKeys.{joined_key}
use Rattle.host_facts.specs.Looks.{Looks}
use Rattle.host_facts.specs.Others.{Others}
use Rattle.host_facts.specs.Views.{WorldView}
use Rattle.plan_parts.specs.Holds.{HasGoneOn, IsOutside, IsTrying, NotedTry, found_of, holder_of, number_of, reader_behind, tries_of}
use Rattle.plan_parts.specs.OtherReaders.{lowest_in}
use Rattle.plan_parts.specs.QuietCalls.{Allows, Noted, QuietCall}
use Rattle.plan_parts.specs.declared.outcome.Outcome.TheVariants as outcomes
use Rattle.plan_parts.specs.declared.read_try.ReadTry.{ReadTry}
use Rattle.plan_parts.specs.declared.taking.Taking.TheVariants as taking
use Rattle.plan_parts.specs.laws.HoldNotes.{files_in, found_some, not_own_key, quiet_try, shown_tested, word_shows}
use Rattle.plan_parts.specs.laws.HoldWords.{alone_is, holder_says, lowest_is, lowest_says, none_lowest}

-- what may be found where a file's lock is tried: not by the own key held; free and with the own key only as the host reads it
pub record MayBeFound (own h : ℕ) (r : Bool) (word : LockWord) : Type 0 where
  pub holder : (key : ℕ) → holder_of word ≡ Some key → key ≢ own
  pub free : word ≡ words.Free → r ≡ false
  pub among : slice_index (lock_readers word) h ≡ own → r ≡ true

module _ (h f : ℕ) (m : HostState) (some : key_of m ≢ 0) where
  not_among : (r : Bool) → slice_index (lock_readers words.Free) h ≡ key_of m → r ≡ true
  not_among r is = absurd (some (sym is ∙ slice_index-nobody h))

  held_other : (key : Key) → key.0 ≢ key_of m → (n : ℕ) → holder_of (words.Held key) ≡ Some n → n ≢ key_of m
  held_other key other n is = subst (λ (k : ℕ). k ≢ key_of m) (some_same key.0 n is) other

  pub found_read : (word : LockWord) → MayFind purposes.Read (trier h m (File f)) word → reads m (File f) ≡ false
      → MayBeFound (key_of m) h (reads m (File f)) word
  found_read words.Free may unread =
      record { holder = λ key is. absurd cc; free = λ e. unread; among = λ is. not_among (reads m (File f)) is }
  found_read (words.Held key) may unread =
      record { holder = held_other key may; free = λ e. unread; among = λ is. not_among (reads m (File f)) is }
  found_read (words.Read readers) may unread = record { holder = λ key is. absurd cc; free = λ e. unread; among = may }

  pub found_write : (word : LockWord) → MayFind purposes.Write (trier h m (File f)) word
      → MayBeFound (key_of m) h (reads m (File f)) word
  found_write words.Free may =
      record { holder = λ key is. absurd cc; free = λ e. may; among = λ is. not_among (reads m (File f)) is }
  found_write (words.Held key) may =
      record { holder = held_other key may; free = λ e. absurd cc; among = λ is. not_among (reads m (File f)) is }
  found_write (words.Read readers) may = record { holder = λ key is. absurd cc; free = λ e. absurd cc; among = may }

  pub found_release : (word : LockWord) → MayFind purposes.Release (trier h m (File f)) word → reads m (File f) ≡ true
      → MayBeFound (key_of m) h (reads m (File f)) word
  found_release words.Free may reads_it = absurd may
  found_release (words.Held key) may reads_it = absurd may
  found_release (words.Read readers) may reads_it =
      record { holder = λ key is. absurd cc; free = λ e. absurd cc; among = λ is. reads_it }

pub open_of : (word : LockWord) → holder_of word ≡ None → IsOpen word
open_of words.Free held = tt
open_of (words.Held key) held = absurd cc
open_of (words.Read readers) held = tt

-- one of two that may be there
or_some : (o r : Option ℕ) → (o ≡ None → IsSome r) → IsSome (option_or o r)
or_some None r later = later refl
or_some (Some x) r later = refl

or_cases : (o r : Option ℕ) (x : ℕ) → option_or o r ≡ Some x → (o ≡ Some x) ⊎ (r ≡ Some x)
or_cases None r x is = inr is
or_cases (Some y) r x is = inl is

-- keys and their numbers
number_some : (o : Option Key) → IsSome o → IsSome (number_of o)
number_some None is = absurd cc
number_some (Some key) is = refl

some_number : (o : Option Key) → IsSome (number_of o) → IsSome o
some_number None is = absurd cc
some_number (Some key) is = refl

number_other : (o : Option Key) (own n : ℕ) → IfSome o (λ key. key.0 ≢ own) → number_of o ≡ Some n → n ≢ own
number_other None own n other is = absurd cc
number_other (Some key) own n other is = subst (λ (k : ℕ). k ≢ own) (some_same key.0 n is) other

other_number : (o : Option Key) (own : ℕ) → ((n : ℕ) → number_of o ≡ Some n → n ≢ own) → IfSome o (λ key. key.0 ≢ own)
other_number None own others = tt
other_number (Some key) own others = others key.0 refl

-- what a word shows to such tries
abbrev pub shows_at : ℕ → ℕ → ReadTry → LockWord → Option ℕ
shows_at last own t word = option_or (holder_of word) (if t.tries == last then reader_behind own t word else None)

module _ (own : ℕ) (t : ReadTry) (word : LockWord) (fits : IsLockWord word) where
  pub read_shows : file_shows ToRead own (tries_of t) (lock_bytes word) ≡ shows_at 2 own t word
  read_shows =
      rw (holder_says word fits) (rw (lowest_says own word fits) refl)

  pub release_shows : holder_of word ≡ None → file_shows ToRelease own (tries_of t) (lock_bytes word) ≡ shows_at 1 own t word
  release_shows none = rw none (rw (lowest_says own word fits) refl)

  module _ (last : ℕ) where
    more_shows : (u : ReadTry) → HasGoneOn own t last word (taking.More u) → shows_at last own t word ≡ None
    more_shows u gone =
        ap (λ (o : Option ℕ). option_or o (if t.tries == last then reader_behind own t word else None)) gone.0
        ∙ rw (ne_eqb t.tries last gone.1) refl

    busy_shows : (key : Key) → HasGoneOn own t last word (taking.Busy key) → shows_at last own t word ≡ Some key.0
    busy_shows key (inl held) = ap (λ (o : Option ℕ). option_or o (if t.tries == last then reader_behind own t word else None)) held
    busy_shows key (inr (held, over, reader)) =
        ap (λ (o : Option ℕ). option_or o (if t.tries == last then reader_behind own t word else None)) held
        ∙ rw (eq-eqb t.tries last over) reader

    -- the tries behind a word that is tried from
    abbrev make : ℕ → Option (List ℕ) → Option ℕ → Option ℕ → Tries
    make n found reader shown = record { count = n; found = found; reader = reader; shown = shown }

    pub tries_on : (try : Try) (u : ReadTry) → file_shows try own (tries_of t) (lock_bytes word) ≡ shows_at last own t word
        → HasGoneOn own t last word (taking.More u) → with_file (Some try) own (lock_bytes word) (tries_of t) ≡ tries_of u
    tries_on try u shows gone =
        let count = gone.3 in
        let none = ap (not_own own) (shows ∙ more_shows u gone) in
        let word_is = found_some u.tries u.from (λ none_. absurd (omega (arith, count, none_))) ∙ ap (λ (x : LockWord). Some
        (lock_bytes x)) gone.2 in
        let reader = ap (λ (o : Option ℕ). option_or o (number_of t.reader)) (lowest_says own word fits) ∙ sym gone.4 in
        let behind = with_file (Some try) own (lock_bytes word) (tries_of t) in
        ap (λ (n : ℕ). make n behind.found behind.reader behind.shown) (sym count)
        ∙ ap (λ (o : Option (List ℕ)). make u.tries o behind.reader behind.shown) (sym word_is)
        ∙ ap (λ (o : Option ℕ). make u.tries (found_of u.tries u.from) o behind.shown) reader
        ∙ ap (λ (o : Option ℕ). make u.tries (found_of u.tries u.from) (number_of u.reader) o) none

-- the host is outside still where memory and volume are as before
pub outside_on : (v w : WorldView) (h f : ℕ) → host_at w.locks h ≡ host_at v.locks h → w.locks.geometry ≡ v.locks.geometry
    → IsOutside v h f → IsOutside w h f
outside_on v w h f memory geometry is = record {
  joined = ap (λ (m : HostState). m.joined) memory ∙ is.joined;
  file = subst (λ (g : Geometry). f < g.files) (sym geometry) is.file;
  out = ap (λ (m : HostState). holds m (File f)) memory ∙ is.out;
}

module _ (v w : WorldView) (h f last : ℕ) (t : ReadTry) (word : LockWord) (c : Consistent v.locks) (is : IsTrying v h f last t)
    (fits : IsLockWord word) (apart : word ≢ t.from) (may : MayBeFound (key_at v.locks h) h (reads (host_at v.locks h) (File f)) word) where
  abbrev own : ℕ
  own = key_at v.locks h

  -- some other reader is in the first word that is found
  reader_some : holder_of word ≡ None → IsSome (reader_behind own t word)
  reader_some held = or_some (lowest_in own (lock_readers word)) (number_of t.reader) (λ none. elim (cases_eq t.tries 0) [
    | inl first ↦
        let key = joined_key v.locks h c is.outside.joined in
        absurd (apart (alone_is word (reads (host_at v.locks h) (File f)) h own fits held key.of key.small
        (none_lowest own (lock_readers word) none) may.free may.among ∙ sym (is.first first)))
    | inr later ↦ number_some t.reader (is.met later)
  ])

  reader_other : (n : ℕ) → reader_behind own t word ≡ Some n → n ≢ own
  reader_other n reader = elim (or_cases (lowest_in own (lock_readers word)) (number_of t.reader) n reader) [
    | inl lowest ↦ (lowest_is own (lock_readers word) n lowest).1
    | inr noted ↦ number_other t.reader own n is.other noted
  ]

  pub busy_other : (key : Key) → HasGoneOn own t last word (taking.Busy key) → key.0 ≢ own
  busy_other key (inl held) = may.holder key.0 held
  busy_other key (inr (held, over, reader)) = reader_other key.0 reader

  -- the word is tried from next
  pub trying_on : (u : ReadTry) → Looks h v w → HasGoneOn own t last word (taking.More u) → IsTrying w h f last u
  trying_on u looks gone =
      let count = gone.3 in
      let few = gone.1 in
      let old = is.tries in
      record {
        outside = outside_on v w h f looks.memory looks.geometry is.outside;
        word = subst IsLockWord (sym gone.2) fits;
        unheld = subst IsOpen (sym gone.2) (open_of word gone.0);
        tries = omega (arith, count, few, old);
        first = λ none. absurd (omega (arith, count, none));
        met = λ some. some_number u.reader (subst (λ (o : Option ℕ). IsSome o) (sym gone.4) (reader_some gone.0));
        other = other_number u.reader (key_at w.locks h) (λ n noted.
            subst (λ (k : ℕ). n ≢ k) (sym (ap key_of looks.memory)) (reader_other n (sym gone.4 ∙ noted)));
      }

  -- the call as the command's notes have it
  module _ (to : LockWord) (try : Try) (command : Command) (is_try : try_of command ≡ Some try)
      (did : Did v.locks h (lock_try v.locks (File f) t.from to) (Shows (lock_bytes word)) (host_at v.locks h) w.locks)
      (others : Others h v w) (later : Consistent w.locks)
      (allowed : Allows command h v (event (key_at v.locks h) (lock_try v.locks (File f) t.from to) (Shows (lock_bytes word)))
      (NotedTry command h v t))
      (shows : file_shows try own (tries_of t) (lock_bytes word) ≡ shows_at last own t word) where
    tried_is : (n : Notes) → NotedTry command h v t n
        → tried v.locks.geometry h command n.memory.claims
        (event own (lock_try v.locks (File f) t.from to) (Shows (lock_bytes word))) n.tries
        ≡ with_file (Some try) own (lock_bytes word) (tries_of t)
    tried_is n before =
        tried_file_found v.locks.geometry h command n.memory.claims own n.tries f (lock_bytes t.from) (lock_bytes to) (lock_bytes word)
        is.outside.file
        ∙ ap (λ (o : Option Try). with_file o own (lock_bytes word) n.tries) is_try
        ∙ ap (λ (x : Tries). with_file (Some try) own (lock_bytes word) x) before.tries_are

    pub asked_more : (u : ReadTry) → HasGoneOn own t last word (taking.More u)
        → QuietCall command h v w (event own (lock_try v.locks (File f) t.from to) (Shows (lock_bytes word))) (NotedTry command h v t)
        (NotedTry command h w u)
    asked_more u gone =
        quiet_try command v w h (kinds.Lock (File f)) is.outside.file (λ r e. cc) (lock_try v.locks (File f) t.from to) (Shows
        (lock_bytes word))
        (shown_tested (place_of v.locks.geometry (kinds.Lock (File f))) (lock_bytes t.from) (lock_bytes to) (Shows (lock_bytes word)))
        (host_at v.locks h) outcomes.Open _ _ tt did tt others later (files_in v w did.acts.changes.2) allowed
        (λ memory noted. remembered_same v.locks w.locks h memory (lock_try v.locks (File f) t.from to) (Shows
        (lock_bytes word)) noted tt did.mine)
        (λ n before. (before.noted, ap (λ (x : Tries). x.shown) (tried_is n before ∙ tries_on own t word fits last try u shows gone)))
        (λ n before noted. record { noted = noted; tries_are = tried_is n before ∙ tries_on own t word fits last try u shows gone })

    pub asked_busy : (key : Key) → HasGoneOn own t last word (taking.Busy key)
        → QuietCall command h v w (event own (lock_try v.locks (File f) t.from to) (Shows (lock_bytes word))) (NotedTry command h v t)
        (Noted command h w (outcomes.Busy key))
    asked_busy key gone =
        quiet_try command v w h (kinds.Lock (File f)) is.outside.file (λ r e. cc) (lock_try v.locks (File f) t.from to) (Shows
        (lock_bytes word))
        (shown_tested (place_of v.locks.geometry (kinds.Lock (File f))) (lock_bytes t.from) (lock_bytes to) (Shows (lock_bytes word)))
        (host_at v.locks h) (outcomes.Busy key) _ _ tt did tt others later (files_in v w did.acts.changes.2) allowed
        (λ memory noted. remembered_same v.locks w.locks h memory (lock_try v.locks (File f) t.from to) (Shows
        (lock_bytes word)) noted tt did.mine)
        (λ n before. (
          before.noted,
          ap (λ (x : Tries). x.shown) (tried_is n before) ∙ word_shows try own (lock_bytes word) (tries_of t) refl
              ∙ ap (not_own own) (shows ∙ busy_shows own t word fits last key gone) ∙ not_own_key own key.0 (busy_other key gone),
        ))
        (λ n before noted. noted)
