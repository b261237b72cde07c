-- What one call does to what the tries of a command showed.
use Rattle.std.proofs.Common.{◌≡◌, ◌≢◌, ◌<◌, ◌==◌, ℕ, List, Option, None, Some, false, true, refl, ap, sym, ◌∙◌, subst}
use Rattle.std.specs.Prelude.{if◌then◌else◌}
use Rattle.std.specs.List.{list_any}
use Rattle.std.specs.Option.{option_or}
use Rattle.std.proofs.lemmas.Bool.{eq-eqb, ne_eqb}
use Rattle.vol_base.specs.declared.block.Key.{Key}
use Rattle.vol_base.specs.declared.command.Command.{Command}
use Rattle.vol_layout.specs.declared.geometry.Geometry.{Geometry}
use Rattle.vol_layout.specs.declared.kind.Kind.{Kind}
use Rattle.vol_layout.specs.declared.kind.Kind.TheVariants as kinds
use Rattle.vol_layout.specs.declared.kind.Resource.{Resource}
use Rattle.vol_layout.specs.declared.kind.Resource.TheVariants.{File}
use Rattle.vol_layout.specs.Places.{kind_at, place_of}
use Rattle.vol_layout.specs.Ranges.{HasKind, HasResource}
use Rattle.vol_layout.specs.laws.PlaceLaws.{kind_at-place}
use Rattle.shared_disk.specs.Events.{Call, Reply, Done, Fences, Reads, Refuses, Registers, Shows, Tests, Writes, event}
use Rattle.shared_disk.specs.declared.answers.DiskNo.{DiskNo}
use Rattle.slot_lock_blocks.specs.declared.lock.LockWord.TheVariants as words
use Rattle.slot_lock_blocks.specs.LockWords.{IsLockWord, lock_bytes}
use Rattle.disk_locks.specs.Calls.{IsShared}
use Rattle.disk_locks.specs.MayWrite.{IsWritable}
use Rattle.host_runs.specs.FileUses.{Try, ToWrite, try_of}
use Rattle.host_runs.specs.Tries.{Tries, frees_locks, holder_in, no_tries, not_own, reader_shows, showing, tried, with_changed, with_file, with_found, with_read, with_slot}
use Rattle.host_runs.specs.Words.{state_in}
use Rattle.host_notes.specs.Asked.{IsPlainPlace}
use Rattle.host_notes.specs.lemmas.PlainKinds.{writable_kind}
use Rattle.host_notes.specs.lemmas.Words.{held_word}

-- a lock or a slot that was changed, or a plain block: written, or tested and set
pub data Changing : Type 0 where
  ByWrite : List ℕ → Changing
  BySwap : List ℕ → List ℕ → Changing

abbrev pub changing_call : ℕ → Changing → Call
changing_call place (ByWrite block) = Writes place block
changing_call place (BySwap old new) = Tests place old new

module _ (g : Geometry) (h : ℕ) (command : Command) (claims : List ℕ) (own : ℕ) (tries : Tries) where
  -- what the tries show after a call
  abbrev pub after : Call → Reply → Tries
  after call reply = tried g h command claims (event own call reply) tries

  -- a block that was changed, and one that was found, by its kind
  changed_at : (kind : Kind) → HasKind g kind → (way : Changing)
      → after (changing_call (place_of g kind) way) Done ≡ with_changed (Some kind) tries
  changed_at kind has (ByWrite block) = ap (λ (k : Option Kind). with_changed k tries) (kind_at-place g kind has)
  changed_at kind has (BySwap old new) = ap (λ (k : Option Kind). with_changed k tries) (kind_at-place g kind has)

  found_at : (kind : Kind) → HasKind g kind → (old new word : List ℕ)
      → after (Tests (place_of g kind) old new) (Shows word) ≡ with_found (Some kind) command h own claims word tries
  found_at kind has old new word = ap (λ (k : Option Kind). with_found k command h own claims word tries) (kind_at-place g kind has)

  plain_changed : (kind : Kind) → IsWritable g kind → with_changed (Some kind) tries ≡ tries
  plain_changed (kinds.Lock r) writable = absurd writable
  plain_changed kind writable = refl

  plain_found : (kind : Kind) (block : List ℕ) → IsWritable g kind → with_found (Some kind) command h own claims block tries ≡ tries
  plain_found (kinds.Slot y) block writable = absurd writable
  plain_found (kinds.Lock r) block writable = absurd writable
  plain_found kind block writable = refl

  plain_at : (kind : Kind) (way : Changing) (reply : Reply) → IsWritable g kind → HasKind g kind
      → after (changing_call (place_of g kind) way) reply ≡ tries
  plain_at kind way Done writable has = changed_at kind has way ∙ plain_changed kind writable
  plain_at kind (BySwap old new) (Shows block) writable has = found_at kind has old new block ∙ plain_found kind block writable
  plain_at kind (ByWrite block) reply writable has = refl
  plain_at kind (BySwap old new) reply writable has = refl

  no_slot : (kind : Kind) → IsWritable g kind → (of : ℕ) → kind ≢ kinds.Slot of
  no_slot kind writable of e = subst (IsWritable g) e writable

  read_else : (kind : Kind) (try : Option Try) (block : List ℕ) → ((of : ℕ) → kind ≢ kinds.Slot of)
      → with_read (Some kind) try own block tries ≡ tries
  read_else (kinds.Slot of) try block other = absurd (other of refl)
  read_else kind try block other = refl

  looked : (kind : Option Kind) (try : Option Try) (block : List ℕ) → try ≢ Some ToWrite → with_read kind try own block tries ≡ tries
  looked (Some (kinds.Slot of)) (Some ToWrite) block other = absurd (other refl)
  looked (Some (kinds.Slot of)) try block other = refl
  looked kind try block other = refl

  shared_changed : (r : Resource) → IsShared r → with_changed (Some (kinds.Lock r)) tries ≡ tries
  shared_changed (File f) shared = absurd shared
  shared_changed r shared = refl

  shared_found : (r : Resource) (word : List ℕ) → IsShared r → with_found (Some (kinds.Lock r)) command h own claims word tries
      ≡ (if frees_locks command then tries else showing own (holder_in word) tries)
  shared_found (File f) word shared = absurd shared
  shared_found r word shared = refl

  -- a refusal, a call at a plain place, and a call about keys leave them
  pub tried_refused : (call : Call) (cause : DiskNo) → after call (Refuses cause) ≡ tries
  tried_refused (Reads place) cause = refl
  tried_refused (Writes place block) cause = refl
  tried_refused (Tests place old new) cause = refl
  tried_refused (Registers of) cause = refl
  tried_refused (Fences target) cause = refl

  pub tried_plain : (place : ℕ) (way : Changing) (reply : Reply) → IsPlainPlace g place → after (changing_call place way) reply ≡ tries
  tried_plain place way reply plain =
      subst (λ p. after (changing_call p way) reply ≡ tries) (sym plain.at)
      (plain_at plain.kind way reply plain.writable (writable_kind g plain.kind plain.writable))

  pub tried_register : (of : ℕ) (reply : Reply) → after (Registers of) reply ≡ tries
  tried_register of reply = refl

  pub tried_fence : (target : ℕ) (reply : Reply) → after (Fences target) reply ≡ tries
  tried_fence target reply = refl

  -- so do reads, but of a slot by a command that is to have its file alone: it shows the key of a reader that was found
  pub tried_read : (kind : Kind) (reply : Reply) → HasKind g kind → ((of : ℕ) → kind ≢ kinds.Slot of)
      → after (Reads (place_of g kind)) reply ≡ tries
  tried_read kind (Shows block) has other =
      ap (λ (k : Option Kind). with_read k (try_of command) own block tries) (kind_at-place g kind has)
      ∙ read_else kind (try_of command) block other
  tried_read kind reply has other = refl

  pub tried_plain_read : (place : ℕ) (reply : Reply) → IsPlainPlace g place → after (Reads place) reply ≡ tries
  tried_plain_read place reply plain =
      subst (λ p. after (Reads p) reply ≡ tries) (sym plain.at)
      (tried_read plain.kind reply (writable_kind g plain.kind plain.writable) (no_slot plain.kind plain.writable))

  pub tried_look : (place : ℕ) (reply : Reply) → try_of command ≢ Some ToWrite → after (Reads place) reply ≡ tries
  tried_look place (Shows block) other = looked (kind_at g place) (try_of command) block other
  tried_look place reply other = refl

  pub tried_reader : (of : ℕ) (slot : List ℕ) → of < g.hosts → try_of command ≡ Some ToWrite
      → after (Reads (place_of g (kinds.Slot of))) (Shows slot) ≡ showing own (reader_shows of tries.found slot) tries
  tried_reader of slot below writes =
      ap (λ (k : Option Kind). with_read k (try_of command) own slot tries) (kind_at-place g (kinds.Slot of) below)
      ∙ ap (λ (t : Option Try). with_read (Some (kinds.Slot of)) t own slot tries) writes

  -- a lock of a part or a group that was changed leaves them; where it was found, it shows its holder, but to a command that frees locks
  pub tried_shared : (r : Resource) (way : Changing) → HasResource g r → IsShared r
      → after (changing_call (place_of g (kinds.Lock r)) way) Done ≡ tries
  tried_shared r way has shared = changed_at (kinds.Lock r) has way ∙ shared_changed r shared

  pub tried_shared_found : (r : Resource) (old new word : List ℕ) → HasResource g r → IsShared r → frees_locks command ≡ false
      → after (Tests (place_of g (kinds.Lock r)) old new) (Shows word) ≡ showing own (holder_in word) tries
  tried_shared_found r old new word has shared tries_locks =
      found_at (kinds.Lock r) has old new word ∙ shared_found r word shared ∙ rw tries_locks refl

  pub tried_shared_held : (r : Resource) (old new : List ℕ) (other : Key) → HasResource g r → IsShared r → frees_locks command ≡ false
      → IsLockWord (words.Held other) → other.0 ≢ own → tries.shown ≡ None
      → (after (Tests (place_of g (kinds.Lock r)) old new) (Shows (lock_bytes (words.Held other)))).shown ≡ Some other.0
  tried_shared_held r old new other has shared tries_locks word apart none =
      let block = lock_bytes (words.Held other) in
      let says = held_word other.0 word in
      let holder : holder_in block ≡ Some other.0 = rw (eq-eqb (state_in block) 1 says.0) (ap (λ n. Some n) says.1) in
      ap (λ (t : Tries). t.shown) (tried_shared_found r old new block has shared tries_locks)
      ∙ ap (λ o. option_or o (not_own own (holder_in block))) none ∙ ap (not_own own) holder ∙ rw (ne_eqb other.0 own apart) refl

  pub tried_shared_kept : (r : Resource) (old new word : List ℕ) → HasResource g r → IsShared r → frees_locks command ≡ true
      → after (Tests (place_of g (kinds.Lock r)) old new) (Shows word) ≡ tries
  tried_shared_kept r old new word has shared frees = found_at (kinds.Lock r) has old new word ∙ shared_found r word shared ∙ rw frees refl

  -- a file's lock that was changed: only what was shown stays; one that was found counts, and is what was found last
  pub tried_file : (f : ℕ) (way : Changing) → f < g.files
      → after (changing_call (place_of g (kinds.Lock (File f))) way) Done ≡ record no_tries { shown = tries.shown }
  tried_file f way has = changed_at (kinds.Lock (File f)) has way

  pub tried_file_found : (f : ℕ) (old new word : List ℕ) → f < g.files
      → after (Tests (place_of g (kinds.Lock (File f))) old new) (Shows word) ≡ with_file (try_of command) own word tries
  tried_file_found f old new word has = found_at (kinds.Lock (File f)) has old new word

  pub tried_file_swept : (f : ℕ) (old new word : List ℕ) → f < g.files → try_of command ≡ None
      → after (Tests (place_of g (kinds.Lock (File f))) old new) (Shows word) ≡ tries
  tried_file_swept f old new word has none =
      tried_file_found f old new word has ∙ ap (λ (t : Option Try). with_file t own word tries) none

  -- a slot that was changed leaves them; one that was found counts in a `join` and a `recover`, but where it was claimed
  pub tried_slot : (of : ℕ) (way : Changing) → of < g.hosts → after (changing_call (place_of g (kinds.Slot of)) way) Done ≡ tries
  tried_slot of way below = changed_at (kinds.Slot of) below way

  pub tried_slot_found : (of : ℕ) (old new slot : List ℕ) → of < g.hosts → list_any (λ claimed. claimed == of) claims ≡ false
      → after (Tests (place_of g (kinds.Slot of)) old new) (Shows slot) ≡ with_slot command h own slot tries
  tried_slot_found of old new slot below unclaimed = found_at (kinds.Slot of) below old new slot ∙ rw unclaimed refl

  pub tried_slot_claimed : (of : ℕ) (old new slot : List ℕ) → of < g.hosts → list_any (λ claimed. claimed == of) claims ≡ true
      → after (Tests (place_of g (kinds.Slot of)) old new) (Shows slot) ≡ tries
  tried_slot_claimed of old new slot below claimed = found_at (kinds.Slot of) below old new slot ∙ rw claimed refl
